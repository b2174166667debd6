mod Runs
mod Laws
pub mod Serving
pub mod Numbers
pub mod Seating
mod Hosting
pub mod Calling
mod Acting
mod Promise
pub mod Added
