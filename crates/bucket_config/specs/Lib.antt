pub mod Addresses
pub mod Buckets
pub mod Faults
pub mod Words
