pub mod Moves
pub mod Text
pub mod HowFar
pub mod Cases
