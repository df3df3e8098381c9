pub mod Tree
pub mod Text
pub mod Nodes
pub mod Meaning
pub mod Answers
pub mod Inside
pub mod InsidePrinting
