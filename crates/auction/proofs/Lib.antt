pub mod Earnings
pub mod Fillings
pub mod Funds
pub mod Listings
pub mod Opening
pub mod Parts
pub mod Rosters
pub mod Tallies
