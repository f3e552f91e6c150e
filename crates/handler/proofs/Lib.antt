-- What every handler's proof cites: a case of another kind (OtherKind), the own role (Own), the message behind a case (Told), what is left (Closes), what is sent (Sends), the ways by what the rule says (Ways).
pub mod OtherKind
pub mod Own
pub mod Told
pub mod Closes
pub mod Rows
pub mod Sends
pub mod Leaders
pub mod Ways
