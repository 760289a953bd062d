pub mod Words
pub mod Padding
pub mod Rounds
pub mod Operations
pub mod Md5
