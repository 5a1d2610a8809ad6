pub mod Meaning
pub mod Stepping
pub mod Going
pub mod Looping
pub mod Carried
