pub mod Absurd
pub mod Chains
pub mod Numbers
