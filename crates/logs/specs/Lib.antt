-- What the contracts on logs cite beside the rules.
pub mod Place
