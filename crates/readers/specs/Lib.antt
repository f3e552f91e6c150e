-- What hosts are told of a message and of a state, and what each reader promises.
pub mod Said
pub mod Statements
