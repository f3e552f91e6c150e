-- What a new view leaves.
pub mod Views
