-- The laws of the reader and of the writer.
mod Reader
mod Rest
mod Formed
pub mod Promises
