pub mod Enter
