pub mod Pictures
pub mod Refusals
pub mod Answers
pub mod Inside
