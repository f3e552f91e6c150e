-- The laws of rows in order.
pub mod Order
