-- Numbers in bytes, and sections of bytes: definitions alone. Their laws are in proofs/.
pub mod Bytes
pub mod Sections
