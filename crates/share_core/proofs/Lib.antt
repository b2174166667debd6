pub mod Lists
pub mod Seeing
pub mod Replying
pub mod Texts
pub mod Joining
pub mod Chaining
