pub mod Meaning
pub mod Refusing
