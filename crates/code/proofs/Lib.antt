pub mod Laws
pub mod Stack
pub mod MatchLaws
pub mod FaultLaws
pub mod MarkLaws
pub mod DullLaws
pub mod Backslashes
