pub mod Delta
pub mod Kept
pub mod Parts
pub mod Reading
pub mod Bodies
pub mod Pieces
pub mod Formats
