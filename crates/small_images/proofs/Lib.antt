pub mod Cases
pub mod CaseExit
pub mod CasePrints
pub mod CaseLoad
