pub mod Text
pub mod Writing
pub mod Found
pub mod Grammar
pub mod Reading
pub mod Spelling
