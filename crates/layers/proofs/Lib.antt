pub mod Touches
pub mod Joins
pub mod Sides
pub mod Marks
pub mod Worms
