pub mod Numbers
pub mod Rows
pub mod Says
pub mod Decode
pub mod Partner
pub mod Sign
pub mod Ranges
pub mod Kinds
