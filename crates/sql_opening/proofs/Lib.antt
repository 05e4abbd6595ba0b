pub mod OpenLemmas
pub mod FirstLemmas
pub mod RenewLemmas
pub mod AgainLemmas
pub mod ClearLemmas
pub mod UnreadLemmas
pub mod LastsLemmas
