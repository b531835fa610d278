-- 1 one theorem: what the primitives keep, a whole run keeps
pub mod Alike
pub mod PlacesAlike
pub mod OperatorsAlike
pub mod CallsAlike
pub mod BuiltinsAlike
pub mod AllocatingAlike
pub mod StatementsAlike
pub mod Whole
pub mod Rewritten
-- 2 its instances
pub mod Grows
pub mod Stays
pub mod Strays
-- 3 rewriting
pub mod Blind
pub mod DeferredTwice
