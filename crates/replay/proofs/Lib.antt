pub mod OneAtATime
pub mod Runs
pub mod Counted
pub mod Front
pub mod Takes
pub mod Plays
pub mod Unique
