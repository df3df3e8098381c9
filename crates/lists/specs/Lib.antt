pub mod Entries
pub mod Rows
pub mod Choosing
pub mod Causes
