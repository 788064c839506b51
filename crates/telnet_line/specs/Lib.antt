pub mod Telnet
pub mod TelnetReading
pub mod TelnetSteps
pub mod Events
pub mod Drafts
