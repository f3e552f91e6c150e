-- The laws that callers cite.
pub mod First
pub mod Table
mod Fields
mod Writes
pub mod Sorting
pub mod Copies
pub mod Sifting
pub mod Keys
pub mod Rows
