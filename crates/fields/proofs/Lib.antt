-- The laws of rows and of tests by places.
pub mod Rows
pub mod Expected
