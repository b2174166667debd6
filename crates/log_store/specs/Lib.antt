pub mod Log
pub mod Reading
pub mod Refusals
pub mod Loads
pub mod Backed
