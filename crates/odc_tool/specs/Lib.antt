-- 1 words: the commands, and what the reader of words tells
pub mod Words
pub mod Reading
-- 2 what a folder is worth, and how its program is gathered
pub mod Verdict
pub mod Errors
pub mod Gather
-- 3 the statuses and their lines
pub mod Status
pub mod Telling
-- 4 what a command does
pub mod Headline
pub mod Loading
