pub mod Fronts
pub mod Asking
pub mod Output
pub mod RowLines
pub mod Meaning
pub mod Numbers
pub mod AskedNumbers
