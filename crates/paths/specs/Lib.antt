pub mod Questions
pub mod Order
pub mod Refusals
pub mod Answers
pub mod Runs
pub mod Inside
