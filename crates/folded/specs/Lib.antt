pub mod Text
pub mod Folding
pub mod Reading
pub mod Rows
pub mod Shows
pub mod Measure
pub mod Write
pub mod Whole
