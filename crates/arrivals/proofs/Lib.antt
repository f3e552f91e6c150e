-- The ways through the handlers of kind 3 (NoteWays) and kind 1 (TransactionWays), and of taking an entry (TakeWays); that a lift goes up (Lifting).
mod Lifting
mod NoteWays
mod TakeWays
mod TransactionWays
