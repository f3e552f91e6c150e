-- The laws of the slots that are lent.
pub mod Slots
