pub mod Inside
pub mod Saturating
pub mod Undone
