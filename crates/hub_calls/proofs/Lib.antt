pub mod Passes
pub mod Alone
