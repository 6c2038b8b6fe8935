pub mod Alone
pub mod Table
