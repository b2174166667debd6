pub mod Printing
pub mod Reading
pub mod RecordNames
pub mod Records
