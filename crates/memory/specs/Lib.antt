pub mod Mem
pub mod Tags
pub mod Laws
pub mod Consequences
pub mod Words
