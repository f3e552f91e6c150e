-- What the choice of a handler cites.
pub mod Concluded
