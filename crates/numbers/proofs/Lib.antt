pub mod Groups
pub mod Turns
pub mod Shortest
pub mod Places
pub mod Rows
pub mod Forms
