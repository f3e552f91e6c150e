-- The laws that callers cite: a view entered (Entered), the log as it is sent (Logged), a view started (Started),
-- what a message says of the view (Said); the ways through the handlers (ChangeWays, StartWays, LeadWays).
pub mod Entered
pub mod Logged
pub mod Started
pub mod Said
pub mod ChangeWays
pub mod StartWays
pub mod LeadWays
