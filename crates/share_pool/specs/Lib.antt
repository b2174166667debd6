pub mod Posts
pub mod Refreshing
pub mod Visits
pub mod Desks
pub mod Laws
pub mod OneHistory
pub mod Standing
