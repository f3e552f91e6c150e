-- The laws of a tick: what is sent (Telling), many releases (Many, Turns), the ways through a tick (Ways, Tick).
pub mod Telling
pub mod Many
pub mod Turns
pub mod Ways
pub mod Tick
