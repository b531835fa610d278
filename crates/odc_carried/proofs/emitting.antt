-- What the functions that append core code have appended.
pub mod Joins
pub mod Appended
pub mod Sources
pub mod Operands
pub mod Forms
pub mod Lists
pub mod Refusals
