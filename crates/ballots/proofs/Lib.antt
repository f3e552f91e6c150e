-- Laws of the votes: what each says (Votes), which count and which is best (Counting), where their logs stand (Listed), and that these are good (Sound).
pub mod Votes
pub mod Counting
pub mod Listed
pub mod Sound
