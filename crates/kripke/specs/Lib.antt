pub mod Transitions
pub mod Walks
pub mod Until
pub mod Endless
pub mod Refusals
pub mod Answers
pub mod Inside
