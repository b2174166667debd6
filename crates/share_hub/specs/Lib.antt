pub mod Replays
pub mod Backing
pub mod CatalogLaws
pub mod TableLaws
pub mod NodeCalls
