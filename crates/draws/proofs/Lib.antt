pub mod Wrapping
pub mod Generators
pub mod Numbers
pub mod Loan
