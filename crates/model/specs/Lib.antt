pub mod Model
pub mod Labels
pub mod Kinds
pub mod Refusals
pub mod Inside
