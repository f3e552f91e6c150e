-- The laws of keys in rows, and of where they stand.
pub mod Laws
pub mod Places
