pub mod Outputs
pub mod Requests
pub mod Returns
