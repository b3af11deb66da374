pub mod Operand
pub mod Letters
pub mod Builder
pub mod Automaton
