pub mod Ranks
pub mod LeastLemmas
pub mod QuotaLemmas
pub mod Rebalanced
pub mod PartLemmas
pub mod ListedLemmas
pub mod RoomLemmas
pub mod StepLemmas
pub mod WeightLemmas
pub mod Claims
mod NearLemmas
