pub mod NameLemmas
pub mod ReadBack
pub mod Shortness
