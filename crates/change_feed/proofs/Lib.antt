pub mod MarkLemmas
pub mod RangeLemmas
pub mod LawLemmas
pub mod StepLemmas
