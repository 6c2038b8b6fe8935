pub mod Takes
pub mod Lines
