-- How many replies are kept with one more (Kept), and the ways through the handler of kind 19 (Ways).
mod Kept
mod Ways
