-- The records of a name, by its rows.
use Rattle.std.proofs.Common.{◌≡◌, ◌⊎◌, inl, inr, pos, List, map, filter, Ok, Err, Result, Vec, Global, IfOk, IfErr, MatchResult, sym, ap, IsPermutation}
use Rattle.std.specs.List.{list_any, flat_map}
use Rattle.std.proofs.lemmas.List.Sorted.{IsPermutation-sym}
use Rattle.sqlite_value.specs.Order.{Row}
use Rattle.sqlite_trees.specs.Tree.{Trees}
use Rattle.records.specs.Same.{same_record}
use Rattle.records.specs.declared.record.Record.{Record}
use Rattle.records.specs.declared.fault.RecordFault.{RecordFault}
use Rattle.records.specs.declared.fault.RecordFault.TheVariants.{OutOfMemory}
use Rattle.records.proofs.Sorting.{has-permutation, has_from_filter}
use Rattle.archive.proofs.Turning.{has_from_map}
use Rattle.sql_tables.specs.Words.{cells, is_named}
use Rattle.sql_tables.specs.State.{shown_of}
use Rattle.sql_tables.specs.Rows.{row_of, records_in, content_in, IsFilled, HasNoRecords}
use Rattle.sql_tables.proofs.RowLemmas.{each_record}
use Rattle.sql_reading.proofs.StoryLemmas.{held_found}

-- rows of a lawful content's records are all read
all_read : (db : Trees) (c : Record) (rows : List Row) → IsFilled db
    → IsPermutation (filter (is_named (pos c.origin) (pos c.number)) (cells (db 1))) rows
    → HasNoRecords rows → ⊥
all_read db c rows (R, l, stand) same (row, there, none) =
    let test = is_named (pos c.origin) (pos c.number) in
    let held = (has_from_filter test (cells (db 1)) row
    (has-permutation rows (filter test (cells (db 1))) row
    (IsPermutation-sym (filter test (cells (db 1))) rows same) there)).0 in
    let r = has_from_map row_of R row (has-permutation (cells (db 1)) (map row_of R) row
    (IsPermutation-sym (map row_of R) (cells (db 1)) stand) held) in
    none r.0 (each_record R l r.0 r.1) (ap shown_of (sym r.2))

pub named_read : (db : Trees) (c : Record) (rows : List Row)
    (told : Result (Vec Record Global) RecordFault) → IsFilled db
    → IsPermutation (filter (is_named (pos c.origin) (pos c.number)) (cells (db 1))) rows
    → IfOk told (λ all. all.items ≡ flat_map records_in rows)
    → IfErr told (λ fault. (fault ≡ OutOfMemory) ⊎ HasNoRecords rows)
    → MatchResult told
    (λ all. list_any (same_record c) all.items ≡ list_any (same_record c) (content_in db))
    (λ fault. fault ≡ OutOfMemory)
named_read db c rows (Ok all) filled same read other =
    held_found db c rows all.items filled same read
named_read db c rows (Err e) filled same read (inl memory) = memory
named_read db c rows (Err e) filled same read (inr none) =
    absurd (all_read db c rows filled same none)
