-- The rule of each kind.
mod Handled
