pub mod Laws
pub mod Leaving
pub mod Building
