pub mod Forms
pub mod Unknown
