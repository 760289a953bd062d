pub mod Walks
pub mod Tokens
pub mod Events
pub mod Readings
pub mod Feeding
pub mod Laws
