pub mod Cursors
pub mod Laws
pub mod Payload
pub mod Reading
pub mod Token
