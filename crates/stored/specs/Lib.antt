pub mod Format
pub mod Input
pub mod Report
pub mod Printed
