pub mod Texts
pub mod Wholes
pub mod Decimals
pub mod Doubles
pub mod Answers
