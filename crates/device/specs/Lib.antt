pub mod Refusals
pub mod Meaning
pub mod Calls
pub mod Storage
pub mod Laws
pub mod Vectors
pub mod Soundness
