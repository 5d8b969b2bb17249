pub mod Answering
pub mod Binaries
pub mod Examples
pub mod Flows
pub mod Lines
pub mod Plants
pub mod Refusals
pub mod TwoParts
