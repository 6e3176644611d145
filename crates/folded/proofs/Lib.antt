mod Stacks
mod Frames
mod Found
mod Turns
mod Measuring
mod Writing
pub mod Tied
mod Whole
pub mod OfRow
pub mod Printed
pub mod Laws
