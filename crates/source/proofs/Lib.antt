pub mod Kept
pub mod Staying
pub mod Judging
pub mod Phase2
pub mod Woven
pub mod BreakLaw
