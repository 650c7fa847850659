pub mod Numbers
pub mod Blocks
pub mod Entries
pub mod Supers
pub mod RoundTrips
pub mod Vectors
