-- The laws of the digest, and what its statements promise.
pub mod Laws
pub mod Promises
