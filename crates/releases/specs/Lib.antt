-- What the functions of a release cite: a state while entries are released, and the run of those that are agreed.
pub mod Releasing
pub mod Waiting
