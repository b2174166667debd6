pub mod Same
pub mod Goals
pub mod Targets
pub mod Refusals
pub mod Laws
pub mod Added
