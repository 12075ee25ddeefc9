pub mod Modes
pub mod Step
pub mod Execute
pub mod Run
pub mod Loop
pub mod Same
