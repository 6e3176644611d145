pub mod Same
pub mod Lines
pub mod Cases
pub mod At
pub mod Filled
pub mod Writable
pub mod RoundTrip
pub mod Small
pub mod Items
mod Examples
pub mod Zero
pub mod Packs
pub mod Short
pub mod Seeing
