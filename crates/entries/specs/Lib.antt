-- What the functions on entries and tables cite: the row of a transaction, slots by which it is found, and a table in a slice.
pub mod First
pub mod Rows
pub mod Table
