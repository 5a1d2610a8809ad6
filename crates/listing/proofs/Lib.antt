pub mod Words
pub mod Operands
pub mod Lists
pub mod Storing
pub mod Whole
