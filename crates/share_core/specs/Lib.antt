pub mod Asks
pub mod Answers
pub mod Chains
pub mod Laws
pub mod Seen
