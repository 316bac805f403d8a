pub mod Lines
pub mod BlankTail
pub mod Checking
