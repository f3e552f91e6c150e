-- The votes that a step of kind 8 counts.
pub mod Ballots
