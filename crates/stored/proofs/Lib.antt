pub mod Cuts
pub mod SoFar
pub mod Inputs
pub mod Reports
