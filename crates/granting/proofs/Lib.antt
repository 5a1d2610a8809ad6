pub mod Looking
pub mod Blocks
pub mod Granting
