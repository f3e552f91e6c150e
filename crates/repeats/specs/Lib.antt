-- Keys that stand in rows: where they stand, the first that repeats an earlier one, and the row of a key.
pub mod Rows
pub mod Repeat
