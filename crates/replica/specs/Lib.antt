-- What the functions that hosts link give, and what each promises.
pub mod Face
pub mod Statements
