pub mod Split
pub mod Cutting
pub mod Laws
pub mod Examples
