pub mod AnyOrder
pub mod Entries
pub mod Rows
pub mod Reading
pub mod Sorting
pub mod Turns
pub mod Waiting
