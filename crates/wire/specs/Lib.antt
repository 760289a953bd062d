pub mod Octets
pub mod Filled
