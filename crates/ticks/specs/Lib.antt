-- What the functions of the tick cite: what its releases leave.
pub mod Released
