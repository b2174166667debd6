pub mod Worlds
pub mod Standing
