pub mod Parts
pub mod Rebalancing
pub mod Refusals
pub mod Inside
