pub mod Fields
pub mod LengthLaws
pub mod Lengths
pub mod Lines
pub mod Plain
pub mod TokenLaws
pub mod Tokens
pub mod Values
