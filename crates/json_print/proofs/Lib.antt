pub mod RoundTrip
pub mod TokenLemmas
pub mod Lookups
pub mod Plainness
pub mod LengthLemmas
pub mod LineFeeds
pub mod Cutting
