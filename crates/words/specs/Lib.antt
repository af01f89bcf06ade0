pub mod Iterating
pub mod Laws
pub mod Names
pub mod Numbers
pub mod Words
