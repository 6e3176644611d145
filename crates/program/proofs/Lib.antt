pub mod Printing
pub mod Determined
pub mod CaseI
