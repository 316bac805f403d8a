pub mod Name
pub mod Laws
pub mod Steps
pub mod Kept
pub mod Compacts
