pub mod Commands
pub mod Headers
pub mod Quotes
pub mod Words
