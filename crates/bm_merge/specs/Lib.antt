pub mod Merges
pub mod Notes
pub mod Rising
pub mod Workers
pub mod Inside
