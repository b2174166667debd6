mod Lists
mod Keeping
pub mod Worlds
pub mod Places
pub mod Runs
pub mod Apart
mod StoreKeeping
pub mod StoreWorlds
