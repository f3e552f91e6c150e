-- The early entry that is lifted, in a list (Lifted) and in a state's bytes (Lifts), and what stands after an entry or a note came in; timestamps (Stamps).
mod Lifted
pub mod Lifts
mod Stamps
