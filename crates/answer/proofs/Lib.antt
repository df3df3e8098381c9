pub mod Digits
pub mod Entries
pub mod Promises
pub mod Sizes
pub mod Bounds
