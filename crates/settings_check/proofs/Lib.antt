mod TextLemmas
pub mod NodeLemmas
pub mod StoredLemmas
mod ValueLemmas
