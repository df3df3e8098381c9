pub mod Nodes
pub mod Rows
pub mod Answers
pub mod Inside
pub mod Operators
pub mod Lent
