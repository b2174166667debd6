mod Crossing
pub mod Histories
pub mod Refreshes
pub mod Attending
pub mod Working
pub mod Ordered
pub mod Stored
pub mod Adding
