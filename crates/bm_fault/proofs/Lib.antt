pub mod RowLemmas
pub mod WireLemmas
