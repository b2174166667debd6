pub mod Configuration
pub mod Endpoints
pub mod Faults
pub mod Limits
pub mod Profiles
pub mod Texts
pub mod Urls
