-- What the check of a state cites beside the rules, and what it promises.
pub mod Known
pub mod Statements
