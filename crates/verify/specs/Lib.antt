-- What the handler of verify request cites.
pub mod Asked
