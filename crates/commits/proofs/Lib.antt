-- The ways through the handlers of kind 11 (CommitWays) and kind 10 (StatusWays), and what the latter keeps (StatusKept).
mod CommitWays
mod StatusKept
mod StatusWays
