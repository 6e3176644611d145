mod Parts
pub mod Pieces
pub mod Lines
mod Examples
pub mod Decisions
pub mod Laying
pub mod Choice
pub mod ReadBack
pub mod Printed
