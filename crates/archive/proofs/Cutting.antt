-- What a vector covers of records.
use Rattle.std.proofs.Common.{ℕ, List, not}
use Rattle.records.specs.Lists.{IsApart}
use Rattle.records.specs.Contents.{cut}
use Rattle.records.specs.Records.{record_stamp_cmp, is_beyond}
use Rattle.records.specs.declared.record.Record.{Record}
use Rattle.records.proofs.Sorting.{pairwise-filter}

pub apart_cut : (R : List Record) (v : ℕ → ℕ) → IsApart record_stamp_cmp R
    → IsApart record_stamp_cmp (cut R v)
apart_cut R v apart = pairwise-filter _ (λ r. not (is_beyond v r)) R apart
