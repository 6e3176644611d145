pub mod Answer
pub mod Step
