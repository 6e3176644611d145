pub mod Print
pub mod CaseI
