-- Why a step is that of the rules, and what the public statements promise.
pub mod Promises
pub mod Face
