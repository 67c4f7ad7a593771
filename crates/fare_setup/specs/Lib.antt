pub mod SchemeLines
pub mod ReadAgain
pub mod Making
