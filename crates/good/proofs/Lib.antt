-- The laws of the check of a state.
mod Tables
mod Heads
mod Apart
mod Counts
mod Whole
pub mod Promises
