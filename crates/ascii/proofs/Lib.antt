pub mod Table
pub mod Classes
pub mod Flags
pub mod Slots
pub mod Texts
