-- The laws that callers cite: votes and replies kept (Kept), what is in use cleared (Cleared), tables emptied at once (Emptied), a view taken over (Taken), a view started (Begun).
pub mod Cleared
mod Kept
pub mod Emptied
pub mod Taken
pub mod Begun
