-- Where the parts of a state stand in its bytes, and what is known of bytes that hold one.
pub mod Layout
