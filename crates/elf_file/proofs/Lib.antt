-- 1 the first answer
pub mod First
-- 2 what stands at an offset of a file
pub mod Standing
pub mod Appending
pub mod Padding
-- 3 where each part of a written file stands
pub mod Laid
-- 4 the ranges that program headers give
pub mod Segments
-- 5 the sections that section headers give, and their names
pub mod Named
-- 6 a written file meets the rules, and denotes its image
pub mod Denoting
