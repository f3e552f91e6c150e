-- The laws of notes in a slice.
mod Rows
pub mod Notes
pub mod Row
pub mod Leaving
pub mod Points
mod Writes
pub mod Tested
