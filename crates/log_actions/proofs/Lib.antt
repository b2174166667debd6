pub mod FieldReads
pub mod ReadBack
pub mod PathLemmas
pub mod GoodPaths
pub mod CommitTexts
