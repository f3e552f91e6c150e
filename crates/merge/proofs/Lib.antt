-- The laws of taking entries in, of the table of their rows, and of the merge's turns.
pub mod Taking
mod Rows
pub mod Turns
