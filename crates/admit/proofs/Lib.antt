-- Why the tests of a message are those of the rules.
pub mod Cells
pub mod Ways
pub mod Refuses
pub mod Steps
pub mod Admission
