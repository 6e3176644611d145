mod Decided
mod Profiled
mod Sheets
mod Stacks
mod Shelf
mod Asking
