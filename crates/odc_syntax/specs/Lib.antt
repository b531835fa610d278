-- from bytes to tokens
pub mod lexical
-- trees
pub mod Tree
-- the clean form of a node, written by tools/trees like the three below it
pub mod View
-- how many nodes a tree has
pub mod Sizes
-- that children are smaller
pub mod Falls
-- how the logic stores a tree
pub mod Codes
-- the operators that tokens stand for
pub mod Operators
-- the rules of the grammar
pub mod Grammar
-- what derives, and what begins
pub mod Derives
