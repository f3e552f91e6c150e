-- What the functions of the merge cite: what is told of entries taken into a table and of their rows, and the draft with the replies merged in.
pub mod Taken
pub mod Merged
