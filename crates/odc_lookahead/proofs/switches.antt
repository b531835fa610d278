-- `switch`.
pub mod SwitchLemmas
pub mod ItemLemmas
pub mod CasesLemmas
pub mod SwitchHeads
pub mod SwitchValues
pub mod SwitchRuns
pub mod SwitchAnswers
