-- Where the reader of an import stands behind a read.
use Rattle.std.proofs.Common.{◌≡◌, ◌∙◌, inl, ℕ, true, false, List, [], ◌∷◌, ◌++◌, Some, None, refl, sym}
use Rattle.std.specs.Prelude.{Option, option_map}
use Rattle.csv.specs.Reading.{ReadRecord, Reached, default_config, strip_bom, source_of, reader_state, has_failed, is_flexible, took_first}
use Rattle.csv.specs.declared.reader.Reader.{Reader}
use Rattle.csv.specs.declared.parser.State.TheVariants.{StartRecord}
use Rattle.csv.proofs.ReadFacts.{rows-more, rows-end}
use Rattle.history_import.specs.Imports.{HasFirstRecords, HasRecords}
use Rattle.history_import.specs.Reading.{IsOurs, StandsBehind}

-- a read that gave a record leaves a reader of ours
ours-more : {R : Type 0} (rem : R → Option (List ℕ)) (a b : Reader R) (fields : List (List ℕ))
    → IsOurs a → ReadRecord rem a b true fields → took_first b ≡ true
    → has_failed b ≡ has_failed a → is_flexible b ≡ is_flexible a → IsOurs b
ours-more rem a b fields (ready, failed, flexible, trim, config) read first goes keeps =
    (inl first, goes ∙ failed, keeps ∙ flexible, read.3 ∙ trim, read.2 ∙ config)

-- it stands behind one record more
pub stands-more : {R : Type 0} (rem : R → Option (List ℕ)) (a b : Reader R)
    (known : Option (List ℕ)) (records : List (List (List ℕ))) (fields : List (List ℕ))
    → StandsBehind rem a known records → ReadRecord rem a b true fields → took_first b ≡ true
    → has_failed b ≡ has_failed a → is_flexible b ≡ is_flexible a
    → StandsBehind rem b known (records ++ fields ∷ [])
stands-more rem a b None records fields (ours, _) read first goes keeps =
    (ours-more rem a b fields ours read first goes keeps, tt)
stands-more rem a b (Some text) records fields (ours, (rest, left, reached)) read first goes keeps =
    let more = rows-more rem a b fields default_config StartRecord (strip_bom text) rest records
    ours.4 left reached read in
    (ours-more rem a b fields ours read first goes keeps, (more.0, more.1, more.2))

-- a read that gave none ends the text
pub stands-end : {R : Type 0} (rem : R → Option (List ℕ)) (a b : Reader R)
    (known : Option (List ℕ)) (records : List (List (List ℕ))) (fields : List (List ℕ))
    → StandsBehind rem a known records → ReadRecord rem a b false fields
    → HasRecords known records
stands-end rem a b None records fields p read = tt
stands-end rem a b (Some text) records fields (ours, (rest, left, reached)) read =
    (_, rest, reached, rows-end rem a b fields default_config rest ours.4 left read)

-- a text begins by the records that it stands behind
pub stands-first : {R : Type 0} (rem : R → Option (List ℕ)) (reader : Reader R)
    (known : Option (List ℕ)) (records : List (List (List ℕ)))
    → StandsBehind rem reader known records → HasFirstRecords known records
stands-first rem reader None records stands = tt
stands-first rem reader (Some text) records (ours, (rest, left, reached)) = (_, rest, reached)

-- it stands before a text
pub stands-before : {R : Type 0} (rem : R → Option (List ℕ)) (reader : Reader R)
    (known : Option (List ℕ)) → IsOurs reader → reader_state reader ≡ StartRecord
    → source_of rem reader ≡ option_map strip_bom known → StandsBehind rem reader known []
unfolding Reached
stands-before rem reader None ours state source = (ours, tt)
stands-before rem reader (Some text) ours state source =
    (ours, (strip_bom text, source, (sym state, refl)))
