-- What the functions of the crate pass between them, and what the reader and the writer promise.
pub mod Parts
pub mod Statements
