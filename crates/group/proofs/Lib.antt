-- The laws of masks and of the commit rule.
pub mod Masks
pub mod Commit
