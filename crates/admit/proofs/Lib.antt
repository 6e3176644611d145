pub mod Entry
pub mod Keys
pub mod Strays
pub mod Judged
pub mod Tallies
pub mod Reach
pub mod Admitted
pub mod Refused
