pub mod Line
pub mod Calls
pub mod Steps
pub mod Laws
pub mod Examples
