pub mod Fields
pub mod InForm
pub mod Query
