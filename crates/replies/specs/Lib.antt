-- What the handler of verify reply cites.
pub mod Replies
