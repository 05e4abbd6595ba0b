pub mod NodesLemmas
pub mod QuotingLemmas
pub mod RowsLemmas
