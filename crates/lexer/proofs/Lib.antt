pub mod Bounds
pub mod Laws
pub mod Continuing
pub mod Skipping
pub mod Pragma
