pub mod Queue
pub mod Sequential
pub mod Refusals
pub mod Places
pub mod Law
