pub mod Answered
pub mod Divided
pub mod Shares
