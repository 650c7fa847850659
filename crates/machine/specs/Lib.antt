pub mod Spots
pub mod Machine
pub mod Sound
