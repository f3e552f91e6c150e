-- What the contracts of this crate cite beside the definitions of others.
pub mod Sections
