-- What the handlers of kinds 1 and 3 cite beside the rules: what a leader does with an entry, and when a note can be kept.
pub mod Taken
