pub mod DateLemmas
pub mod HeadLemmas
pub mod LineLemmas
