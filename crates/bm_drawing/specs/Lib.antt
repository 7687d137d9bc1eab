pub mod Shapes
pub mod Scales
pub mod Drawing
