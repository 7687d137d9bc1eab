pub mod Prefixes
pub mod HistoryLemmas
pub mod BoardLemmas
