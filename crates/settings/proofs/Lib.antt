pub mod Rules
pub mod Refusals
pub mod Lengths
