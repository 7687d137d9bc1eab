pub mod Faults
pub mod Flying
pub mod Rows
pub mod Views
pub mod Wires
pub mod Inside
