pub mod Elements
pub mod Faults
pub mod Listings
pub mod Steps
pub mod Tags
pub mod Texts
