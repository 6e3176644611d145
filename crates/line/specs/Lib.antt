pub mod Refusal
pub mod Family
pub mod Table
pub mod Read
pub mod Zeros
pub mod At
pub mod Seeing
pub mod Write
