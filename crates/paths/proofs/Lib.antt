pub mod Operands
pub mod Lettering
pub mod Building
pub mod Automata
pub mod Words
