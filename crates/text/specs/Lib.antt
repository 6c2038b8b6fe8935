pub mod Cut
pub mod Header
pub mod Lines
pub mod Numeral
pub mod Reading
pub mod Refusal
