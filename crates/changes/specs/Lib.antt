-- What entering a view and starting one leave, over what the message's bytes give.
pub mod Changes
