-- What some updates make of a content.
use Rattle.std.proofs.Common.{◌≡◌, ℕ, List, [], ◌∷◌, unwrap_or, refl, subst}
use Rattle.records.specs.Contents.{Content, Finding, Adds, Holds, Clash, Gap, TickTooFar, TickNotRising, finding, learned, put}
use Rattle.records.proofs.ContentsParts.{after_finding}
use Rattle.records.specs.declared.record.Record.{Record}
use Rattle.archive.specs.Growth.{IsUpdateOf, GrowsBy, Grows}

pub grows-none : (own : ℕ) (R : Content) → Grows own R R
grows-none own R = ([], refl)

pub grows-one : (own : ℕ) (R : Content) (r : Record) → IsUpdateOf own R r → Grows own R (put r R)
grows-one own R r is = (r ∷ [], (is, refl))

-- some updates, and then others
pub grows-then : (own : ℕ) (R S T : Content) → Grows own R S → Grows own S T → Grows own R T
grows-then own R S T first later = by first.0 R first.1
  where
    by : (rs : List Record) (Q : Content) → GrowsBy rs own Q S → Grows own Q T
    by [] Q e = subst (λ (X : Content). Grows own X T) e later
    by (r ∷ rs) Q h = let more = by rs (put r Q) h.1 in (r ∷ more.0, (h.0, more.1))

-- a record that is learned, where it is an update's if it is added
pub grows-learned : (own : ℕ) (R : Content) (r : Record) → (finding R r ≡ Adds → IsUpdateOf own R r)
    → Grows own R (unwrap_or (learned R r) R)
grows-learned own R r is = by (finding R r) refl
  where
    by : (f : Finding) → finding R r ≡ f → Grows own R (unwrap_or (after_finding R r f) R)
    by Adds e = grows-one own R r (is e)
    by Holds e = grows-none own R
    by Clash e = grows-none own R
    by (Gap held got) e = grows-none own R
    by TickTooFar e = grows-none own R
    by TickNotRising e = grows-none own R
