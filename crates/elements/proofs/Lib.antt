pub mod Elements
pub mod Vectors
pub mod Lanes
pub mod Files
