pub mod Answers
pub mod Admission
