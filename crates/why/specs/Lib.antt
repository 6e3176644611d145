pub mod Through
pub mod Why
pub mod Grows
pub mod Seek
pub mod Second
pub mod Promise
pub mod Cases
