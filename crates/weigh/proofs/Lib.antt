pub mod Weighed
pub mod Alike
pub mod Accepted
pub mod OneLine
pub mod Less
pub mod AnyWeight
