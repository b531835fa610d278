-- 1 limits: how many instructions core code becomes, and how many nodes of it the source
pub mod Weight
pub mod Counts
-- 2 the files of nodes, and names and paths that can be listed
pub mod Files
-- 3 the image of a program, and what its file of a program promises
pub mod Linking
pub mod Kept
