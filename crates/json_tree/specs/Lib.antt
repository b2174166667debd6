pub mod Fields
pub mod Gives
pub mod Lists
pub mod Options
pub mod Pairs
pub mod Results
pub mod Tree
