-- Statements, procedures and whole programs.
pub mod Statements
pub mod Source
