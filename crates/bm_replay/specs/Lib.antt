pub mod Replays
pub mod Inside
