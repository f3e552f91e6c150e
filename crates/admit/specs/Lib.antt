-- Which of the refusals 2 to 6 a message meets.
pub mod Refusal
