-- What is remembered of an archive's records: last numbers, and the greatest tick.
use Rattle.std.specs.Prelude.{◌≡◌, ℕ, max, ℤ, List, Bool, if◌then◌else◌, ◌==◌}
use Rattle.std.specs.Int.{int_max}
use Rattle.stamp.specs.Numbers.{number_of}
use Rattle.records.specs.Contents.{Content, vec, top}
use Rattle.records.specs.declared.record.Record.{Record}

-- these are the content's last numbers
abbrev pub AreLasts : Content → List ℕ → Type 0
AreLasts R numbers = (replica : ℕ) → number_of numbers replica ≡ vec R replica

-- they are, and this is its greatest tick
pub record Remembers (R : Content) (numbers : List ℕ) (tick : ℤ) : Type 0 where
  pub lasts : AreLasts R numbers
  pub newest : tick ≡ top R

-- the numbers and the tick, with a record's where it is added
pub record Raises (r : Record) (added : Bool) (numbers : List ℕ) (tick : ℤ) (new_numbers : List ℕ)
    (new_tick : ℤ) : Type 0 where
  pub lasts : (replica : ℕ)
      → number_of new_numbers replica
      ≡ (if added then max (number_of numbers replica) (if r.origin == replica then r.number else 0)
      else number_of numbers replica)
  pub newest : new_tick ≡ (if added then int_max tick r.tick else tick)
