pub mod Run
pub mod Answer
pub mod Playing
pub mod Theorems
