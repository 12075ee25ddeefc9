pub mod Sets
pub mod Valid
pub mod Refused
pub mod Examples
pub mod Lengths
