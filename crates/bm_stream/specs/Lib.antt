pub mod Pieces
pub mod Laws
pub mod Rings
pub mod Views
pub mod Accepts
pub mod Text
pub mod Inside
