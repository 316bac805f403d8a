pub mod Joining
pub mod Staying
pub mod Calls
pub mod Verdicts
pub mod Laws
pub mod Examples
