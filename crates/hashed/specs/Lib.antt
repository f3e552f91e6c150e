-- A table of rows by key.
pub mod Table
