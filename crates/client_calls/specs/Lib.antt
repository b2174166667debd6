pub mod Bodies
pub mod Calls
pub mod ProfileObjects
pub mod Texts
