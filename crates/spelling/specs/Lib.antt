pub mod Rows
pub mod Spell
pub mod Print
pub mod Language
pub mod Theorems
pub mod Candidate
pub mod Tried
pub mod Examples
