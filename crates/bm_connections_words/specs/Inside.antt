-- What the contracts of private calls use in addition to Options and Words.
pub mod Words
