-- What the handler of kind 8 is given of a vote, and the states in which it keeps it.
pub mod Votes
