pub mod Changes
pub mod Borrowed
pub mod Feed
pub mod Known
pub mod Laws
pub mod Shown
