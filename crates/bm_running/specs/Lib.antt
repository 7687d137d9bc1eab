pub mod FirstStop
pub mod Inside
