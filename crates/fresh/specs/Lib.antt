-- What the start of a member and the state's length promise.
pub mod Statements
