-- What the functions of kind 4 make of the log that it brings and of the state.
mod Rule
mod Home
mod Slow
mod Ways
