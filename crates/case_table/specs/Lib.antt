pub mod Fields
pub mod Laws
pub mod Refusals
pub mod Routes
pub mod ValueTypes
