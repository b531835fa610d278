-- a list that is walked to its end
mod Rest
-- the arguments of built-in procedures
mod Arguments
-- cases of a switch
mod Cases
-- weights that are equal node by node
mod Same
-- frames by a table of types alone
mod Frames
-- variables that lie one behind another
pub mod Following
