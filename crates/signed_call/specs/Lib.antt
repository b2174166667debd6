pub mod Calls
pub mod Laws
pub mod Methods
pub mod Paths
pub mod Signing
pub mod Stamps
pub mod Texts
