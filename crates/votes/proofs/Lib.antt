-- The laws of the handler of kind 8: how many votes there are (Counted), the state in the view of a vote (Came), and the ways through asking
-- the other groups (AskWays), through a vote that makes F+1 (ConcludeWays) and through the handler (VoteWays).
mod Counted
mod Came
mod AskWays
mod ConcludeWays
mod VoteWays
