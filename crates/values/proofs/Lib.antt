pub mod Refusing
pub mod StoredRows
pub mod OneAnswer
pub mod Decimals
