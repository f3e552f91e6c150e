-- What a handler is given, what it leaves, and the bytes of what it sends.
pub mod Handler
pub mod Sending
