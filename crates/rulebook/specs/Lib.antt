pub mod Book
pub mod Check
pub mod Lookup
pub mod Signature
pub mod Order
pub mod Index
pub mod Judged
pub mod Examples
