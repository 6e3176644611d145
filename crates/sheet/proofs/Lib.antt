pub mod Names
pub mod Clear
pub mod Apart
pub mod Spelled
pub mod Good
pub mod Decisions
pub mod RoundTrip
mod Examples
