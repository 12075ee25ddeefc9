pub mod Answers
pub mod Digits
pub mod Ends
pub mod Theorems
pub mod Back
