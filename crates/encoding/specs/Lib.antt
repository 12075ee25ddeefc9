pub mod Encode
pub mod Candidate
