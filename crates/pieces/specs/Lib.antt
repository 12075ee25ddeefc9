pub mod Pieces
pub mod Examples
