-- A peer that tells the truth: what comes for each question is what who holds a content answers,
-- which may learn more meanwhile.
use Rattle.std.specs.Prelude.{◌≡◌, ℕ, min, List, [], ◌∷◌}
use Rattle.stamp.specs.Limits.{IsReplica}
use Rattle.stamp.specs.Numbers.{number_of}
use Rattle.records.specs.Lists.{Has}
use Rattle.records.specs.Contents.{Content, vec}
use Rattle.records.specs.declared.record.Record.{Record}
use Rattle.archive.specs.Store.{IsLawfulContent}
use Rattle.exchange.specs.Batches.{batch_of}
use Rattle.peer_check.specs.Comparing.{Comparison, numbers_behind}
use Rattle.peer_check.specs.declared.comparing.Extent.{Extent}

-- these records are the batch, behind these numbers, of who held this content before, whatever was
-- learned since
pub record IsBatchSince (S : Content) (numbers : ℕ → ℕ) (brought : List Record) : Type 0 where
  pub now : Content
  pub lawful : IsLawfulContent now
  pub stays : (s : Record) → Has S s → Has now s
  pub batch : brought ≡ batch_of now numbers

-- what came for these questions of who holds these numbers, the latest one in front, is such a
-- batch for each; the first one asks behind first, and the next one will ask behind next
abbrev pub AreBatches : Extent → Content → (held : ℕ → ℕ) → List (List Record)
    → (first next : ℕ → ℕ) → Type 0
AreBatches extent S held [] first next = (replica : ℕ) → next replica ≡ first replica
AreBatches extent S held (brought ∷ earlier) first next =
    (numbers : ℕ → ℕ) × AreBatches extent S held earlier first numbers
    × IsBatchSince S numbers brought
    × ((replica : ℕ) → next replica ≡ numbers_behind extent held numbers brought replica)

-- all that came in a comparison is what one answers that held this content as it began
pub record IsAnsweredFrom (extent : Extent) (S : Content) (c : Comparison) : Type 0 where
  pub theirs : (replica : ℕ) → IsReplica replica
      → number_of c.theirs replica ≡ vec S replica
  pub asked : ℕ → ℕ
  pub earlier : AreBatches extent S (number_of c.ours) c.earlier (number_of c.first) asked
  pub brought : IsBatchSince S asked c.brought

-- the last record that two contents share of each replica is the same in both
abbrev pub AgreeAtLast : Content → Content → Type 0
AgreeAtLast R S =
    (r s : Record) → Has R r → Has S s → r.origin ≡ s.origin → r.number ≡ s.number
    → r.number ≡ min (vec R r.origin) (vec S r.origin) → r ≡ s
