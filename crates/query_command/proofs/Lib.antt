mod Files
mod Flows
mod Tables
pub mod Queries
