-- 1 the fields of a file
pub mod Fields
-- 2 the nine rules, and the image that a file denotes
pub mod Rules
-- 3 what is seen of a file
pub mod Seen
-- 4 where headers stand
pub mod Stands
-- 5 the file of an image
pub mod Written
