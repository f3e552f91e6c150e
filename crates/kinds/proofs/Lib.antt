-- Why the row in the code is that of the table, and what is read off it.
pub mod Readings
