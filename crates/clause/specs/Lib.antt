pub mod Clause
pub mod Sequence
pub mod Calls
pub mod Laws
pub mod Steps
