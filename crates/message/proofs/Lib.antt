pub mod Names
pub mod Checked
pub mod Wires
pub mod Listings
pub mod Typed
pub mod Alive
