pub mod Lane
pub mod Signed
pub mod Widths
pub mod Examples
pub mod Recipe
pub mod Element
