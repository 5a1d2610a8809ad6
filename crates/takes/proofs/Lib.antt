pub mod Keeping
pub mod Ruling
pub mod Taking
pub mod Nexts
