pub mod Trees
pub mod Rest
pub mod Order
pub mod Rising
