pub mod Plans
pub mod Tallies
pub mod Runs
pub mod Answers
