-- What the digest's functions promise, and the form in which it is kept between bytes.
pub mod Halves
pub mod Statements
