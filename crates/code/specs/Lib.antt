pub mod Code
pub mod Bracket
pub mod Matching
pub mod Marks
pub mod Laws
pub mod Examples
pub mod Stack
