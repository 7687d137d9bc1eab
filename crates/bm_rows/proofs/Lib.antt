pub mod Places
pub mod Glued
pub mod Lasts
