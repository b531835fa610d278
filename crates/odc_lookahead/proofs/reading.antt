-- Reading one production: the answer for it, made from those for its parts.
pub mod Samples
pub mod Reaching
pub mod Leading
pub mod Chaining
pub mod Nesting
pub mod Opening
pub mod Answering
pub mod Behind
pub mod LineLemmas
pub mod EndLemmas
pub mod Deciding
pub mod Optional
pub mod Within
pub mod Carrying
pub mod Depths
