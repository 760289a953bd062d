pub mod Texts
pub mod Calendar
