-- The laws of the verdict.
mod Fresh
mod Keys
pub mod Entries
