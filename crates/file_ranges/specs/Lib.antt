pub mod Pieces
pub mod Ranges
pub mod Spans
pub mod Picks
