pub mod Names
pub mod Lines
pub mod Texts
pub mod Passes
pub mod Rules
pub mod Seen
