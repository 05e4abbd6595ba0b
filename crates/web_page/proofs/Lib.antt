mod ListingLemmas
pub mod RowLemmas
mod MarkupLemmas
mod CallLemmas
