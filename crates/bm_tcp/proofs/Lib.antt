pub mod Again
pub mod Within
