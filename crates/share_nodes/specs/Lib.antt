pub mod Placings
pub mod Steps
pub mod Laws
pub mod Stores
pub mod StoreLaws
pub mod Code
