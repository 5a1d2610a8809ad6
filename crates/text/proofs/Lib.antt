pub mod Writing
pub mod Figures
pub mod Lines
