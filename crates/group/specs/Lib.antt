-- What the contracts of the group's functions cite beside the rules.
pub mod Points
