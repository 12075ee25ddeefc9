pub mod Rate
pub mod Examples
