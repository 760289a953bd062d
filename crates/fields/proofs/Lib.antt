pub mod Dates
pub mod Runs
