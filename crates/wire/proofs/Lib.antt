pub mod Front
pub mod Headers
pub mod Opening
pub mod Rest
pub mod Refusing
