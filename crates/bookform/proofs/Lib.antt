pub mod Steps
pub mod Standings
pub mod Composing
pub mod Grammars
pub mod Beginnings
