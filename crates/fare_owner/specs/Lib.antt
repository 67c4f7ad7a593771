pub mod TapJudged
pub mod StatementJudged
pub mod CloseJudged
pub mod RetireJudged
