-- The Rust types as clean trees and programs.
pub mod Codes
pub mod Sizes
pub mod View
pub mod Falls
pub mod StmtView
pub mod StmtFalls
pub mod Instances
pub mod ProgramView
pub mod TableRows
