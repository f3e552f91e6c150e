-- What the functions of kind 4 cite: the rule in parts.
pub mod Takes
