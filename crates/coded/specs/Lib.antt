pub mod Coded
pub mod Lines
pub mod Sequences
