pub mod Cuts
pub mod Digits
pub mod Bounds
pub mod Rounding
pub mod Scaling
