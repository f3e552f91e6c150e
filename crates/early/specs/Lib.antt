-- What the functions on early entries cite: the search for those due, the listed entries and the look into them, things that are moved to the front, early and late beside each other.
pub mod Due
pub mod Listed
pub mod Moved
pub mod Buffers
