-- What a program is.
pub mod Tree
pub mod Program
