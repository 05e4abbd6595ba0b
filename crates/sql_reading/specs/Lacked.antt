-- The records of one origin.
use Rattle.std.specs.Prelude.{ℕ, ◌==◌, nat_lt, ◌&&◌, List, filter}
use Rattle.records.specs.Contents.{Content}
use Rattle.records.specs.Records.{is_beyond}
use Rattle.records.specs.declared.record.Record.{Record}

-- those behind a number
abbrev pub records_after : Content → ℕ → ℕ → List Record
records_after R origin number = filter (λ r. (r.origin == origin) && nat_lt number r.number) R

-- those beyond a vector
abbrev pub lacked_of : Content → (ℕ → ℕ) → ℕ → List Record
lacked_of R v origin = filter (λ r. (r.origin == origin) && is_beyond v r) R
