pub mod Cuts
pub mod Escapes
pub mod Numbers
pub mod Read
pub mod ReadTyped
pub mod PartsOf
