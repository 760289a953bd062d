pub mod Bytes
pub mod Fills
pub mod Joins
pub mod Steps
pub mod Long
