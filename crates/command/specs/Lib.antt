pub mod Commands
pub mod Faults
pub mod Laws
pub mod Lines
pub mod Opening
pub mod Readings
pub mod Steps
