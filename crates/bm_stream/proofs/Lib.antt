mod Cells
pub mod Finding
mod Lengths
mod Collecting
mod Covering
pub mod Hex
mod Reading
mod Steps
mod Walking
mod Worked
