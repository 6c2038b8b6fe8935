pub mod Command
pub mod Header
pub mod Quote
pub mod Written
