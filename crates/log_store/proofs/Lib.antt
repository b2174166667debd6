pub mod Growing
pub mod Fetching
pub mod Keeping
pub mod VersionLemmas
pub mod Loading
pub mod Backing
