-- The laws of the start, and what its statements promise.
mod Fresh
pub mod Promises
