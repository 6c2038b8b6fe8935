pub mod LineLaws
pub mod Parts
pub mod Values
pub mod Headers
