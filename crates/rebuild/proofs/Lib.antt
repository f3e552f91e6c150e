-- Laws of the rebuild from votes.
pub mod Holders
pub mod Tables
pub mod Begun
pub mod New
pub mod Added
pub mod Whole
