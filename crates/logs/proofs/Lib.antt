-- The laws of logs in bytes.
pub mod Place
pub mod Every
pub mod Rising
pub mod Tables
pub mod Apart
