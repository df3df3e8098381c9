pub mod FloatOrder
pub mod Orders
pub mod Gates
pub mod Turns
pub mod Bits
pub mod Meaning
pub mod Comparing
