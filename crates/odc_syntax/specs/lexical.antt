-- From bytes to tokens.
-- a word of characters, one after another
pub mod Words
-- the longest word of a form at the front of a text
pub mod Longest
-- names, keywords and directives
pub mod Names
-- integers and the numbers that the language has none of
pub mod Numbers
-- escapes, runes and strings
pub mod Texts
-- comments
pub mod Comments
-- signs
pub mod Signs
-- the pieces that a text is cut into
pub mod Pieces
-- what a piece is, by its first two bytes
pub mod Classes
-- what a token says beside its kind
pub mod Wording
-- places, semicolons, and the tokens of a text
pub mod Lexes
-- what integers, runes and strings stand for
pub mod Value
