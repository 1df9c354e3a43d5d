pub mod Motion
pub mod MapPairs
pub mod PairLaws
