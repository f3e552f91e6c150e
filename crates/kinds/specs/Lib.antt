-- The rows of the table of kinds as the code has them.
pub mod Rows
