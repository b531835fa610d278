-- Parameter lists, with names or without.
pub mod ParamFronts
pub mod ParamAnswers
pub mod DollarAnswers
pub mod ParamsChoice
pub mod ParamsAnswers
pub mod ParamsCrossed
pub mod ParamsEnds
pub mod ParamsExits
