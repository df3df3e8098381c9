pub mod Gates
pub mod Delays
pub mod Answers
