pub mod TokenLemmas
pub mod FieldAnswers
pub mod ReadBack
pub mod Pieces
pub mod BodyBack
pub mod ErrorBack
pub mod PartLemmas
