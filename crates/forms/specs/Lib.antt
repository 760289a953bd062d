pub mod Forms
pub mod Builders
pub mod Order
