pub mod Rewritten
pub mod Asked
pub mod Promise
pub mod Gain
pub mod ByRow
pub mod Factors
