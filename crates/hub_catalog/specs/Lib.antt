pub mod Records
pub mod CatalogTurns
pub mod NewLogs
pub mod CatalogCalls
pub mod Edits
pub mod Rounds
pub mod Opens
pub mod Refreshes
