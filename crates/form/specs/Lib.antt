pub mod Readers
pub mod Form
pub mod Print
pub mod Longest
