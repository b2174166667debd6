pub mod Columns
pub mod Day
pub mod DigitPairs
pub mod Kinds
pub mod Typed
pub mod Whole
