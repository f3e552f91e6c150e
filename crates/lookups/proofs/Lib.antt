-- What follows of the keys of notes.
pub mod Keys
pub mod Apart
