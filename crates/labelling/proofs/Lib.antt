pub mod Saying
pub mod Keys
