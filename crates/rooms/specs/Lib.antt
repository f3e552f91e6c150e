-- What a step promises.
pub mod Statements
