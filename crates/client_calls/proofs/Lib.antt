pub mod Fetching
pub mod Telling
pub mod Pushing
