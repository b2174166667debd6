pub mod Dates
pub mod Statuses
pub mod Contents
pub mod Heads
