mod SameLemmas
mod FileLemmas
mod CommitLemmas
pub mod Reaching
mod TextLemmas
mod Following
mod Adding
