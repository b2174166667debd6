pub mod NameLemmas
pub mod Segments
pub mod Distinct
pub mod CommitRules
pub mod Reading
pub mod Known
pub mod Whole
pub mod PrintedBack
