-- What a lift requires: that it goes up.
pub mod Climbs
