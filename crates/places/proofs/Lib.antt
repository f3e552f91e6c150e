-- What is known of bytes that hold a state: its sections, each part read and each part written.
pub mod Sections
pub mod Head
pub mod Zeros
pub mod Tables
pub mod Rows
pub mod Kept
pub mod Spots
pub mod Writes
pub mod Lent
pub mod Midway
pub mod Fields
pub mod Logged
