pub mod CallerLemmas
pub mod FormatParts
pub mod Forms
pub mod Fronts
pub mod LinkLaws
pub mod OtherFields
pub mod Segments
pub mod Unknown
