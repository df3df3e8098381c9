pub mod Values
pub mod Limits
pub mod Rows
pub mod Signs
pub mod Refusal
pub mod Answers
pub mod Inside
