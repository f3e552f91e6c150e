-- What the functions of the crate pass between them.
pub mod Said
