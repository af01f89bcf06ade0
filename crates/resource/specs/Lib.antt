pub mod Deposits
pub mod Meaning
pub mod Payers
pub mod Pools
pub mod Totals
