-- What is looked at in a row of entries.
pub mod Rows
