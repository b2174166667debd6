pub mod Escape
pub mod Numbers
