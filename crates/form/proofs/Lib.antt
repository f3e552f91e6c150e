-- What follows of bytes that are compared with the form of what is read from them.
pub mod Same
pub mod Parts
pub mod Whole
