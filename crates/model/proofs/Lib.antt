pub mod Named
mod Marks
pub mod KindLaws
pub mod Lowest
pub mod Fine
pub mod Labels
pub mod OneAnswer
