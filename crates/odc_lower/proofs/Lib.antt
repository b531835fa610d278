pub mod Plains
-- each form of core code, and what its steps do
pub mod simulation
pub mod Procs
pub mod Lengths
pub mod Sizes
pub mod Lists
pub mod Emitted
pub mod Sanity
pub mod Whole
pub mod Programs
pub mod Depths
pub mod Forms
pub mod Wells
