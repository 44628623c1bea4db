pub mod Given
pub mod HelpPages
pub mod Commands
pub mod Grammars
pub mod Asked
