-- What the readers of JSON values answer, the tokens that are written, and which bytes are read as they are; for private clauses.
pub mod Members
pub mod Reading
pub mod CallReading
pub mod ReplyReading
pub mod Tokens
pub mod Spelled
