-- Why the readers give what their statements say.
mod Next
mod Fields
pub mod Promises
