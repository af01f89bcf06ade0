pub mod Cuts
mod Names
pub mod Reading
