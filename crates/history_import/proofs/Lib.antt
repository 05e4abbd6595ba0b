pub mod DoingLemmas
pub mod ImportingLemmas
pub mod RowLemmas
pub mod TellingLemmas
pub mod StandingLemmas
mod HeaderLemmas
mod LineLemmas
