-- what a file is, and where it is at fault
pub mod File
-- what the functions read
pub mod Read
