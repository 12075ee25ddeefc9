pub mod Numbers
pub mod Table
pub mod Turned
pub mod Partners
pub mod ByKind
pub mod Answers
pub mod Ranges
