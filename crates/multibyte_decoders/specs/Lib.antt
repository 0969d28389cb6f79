pub mod EucJp
pub mod Gb18030
pub mod Holding
pub mod Holdings
pub mod PairLaws
pub mod PairRules
pub mod Pairs
