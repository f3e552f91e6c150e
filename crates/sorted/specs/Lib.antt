-- Rows in the order of their keys.
pub mod Order
