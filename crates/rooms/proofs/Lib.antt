-- The laws of a step, and what its statement promises.
mod Ways
mod Ordering
pub mod Promises
