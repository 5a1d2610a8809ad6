pub mod Lines
pub mod Loop
pub mod Near
pub mod Needs
pub mod Stepping
pub mod Ready
pub mod Turn
