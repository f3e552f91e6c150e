pub mod Logic
pub mod Laws
pub mod Sections
pub mod Codecs
mod Turns
