pub mod Continuation
pub mod Trivia
pub mod Steps
pub mod Laws
