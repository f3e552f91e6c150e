-- The slots that are lent.
pub mod Slots
