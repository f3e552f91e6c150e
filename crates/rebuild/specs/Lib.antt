-- What the rebuild from votes is given and gives.
pub mod Tables
pub mod Rebuild
