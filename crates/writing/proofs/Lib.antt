pub mod Resent
