-- The entries that are asked for, one by one (Asked), as chunks of 24 bytes (Chunks), and the ways through the handler of kind 18 (Ways).
mod Asked
mod Ways
mod Chunks
