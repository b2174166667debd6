pub mod Values
pub mod Wrapped
pub mod ReadBack
pub mod ReadPieces
pub mod BodyBack
pub mod LineLengths
