pub mod Chained
pub mod Faultless
pub mod NumberLemmas
pub mod RowLemmas
pub mod Says
pub mod Spelled
pub mod Valid
