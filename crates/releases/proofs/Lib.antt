-- The laws of a release: the run of those agreed (Run), a state on the way (Way), one release after the other (Next), the log's bytes and their digest (LogBytes).
pub mod Run
pub mod Way
pub mod Next
pub mod LogBytes
