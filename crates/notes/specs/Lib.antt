-- What the functions on notes cite: the notes in a slice, and the row of a transaction among them.
pub mod Notes
