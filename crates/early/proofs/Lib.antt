-- The laws of early entries: what stays (Kept), leading runs and what is due (Leading), the look into the listed entries (Lookup), things moved to the front (Sifting), a table (Entries), the notes (Noted), early and late beside each other (Buffers).
pub mod Kept
pub mod Leading
mod Lookup
pub mod Sifting
pub mod Entries
mod Noted
pub mod Buffers
