pub mod Kinds
pub mod Concatenations
pub mod Mirrors
pub mod FakeWorms
pub mod Edges
pub mod Soundness
