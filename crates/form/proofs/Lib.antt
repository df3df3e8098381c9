pub mod Readings
pub mod Steps
pub mod Decimal
pub mod Inverse
pub mod InverseLines
pub mod Printed
pub mod Longest
pub mod Refusals
