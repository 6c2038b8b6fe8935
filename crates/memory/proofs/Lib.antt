pub mod Fronts
pub mod Packs
pub mod WordSlots
pub mod Follows
