pub mod Tables
pub mod Headers
pub mod Values
pub mod Kinds
pub mod Names
pub mod Rules
pub mod Checks
pub mod MediaAlive
