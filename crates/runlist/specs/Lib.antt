pub mod Plan
pub mod Rooms
pub mod RunList
