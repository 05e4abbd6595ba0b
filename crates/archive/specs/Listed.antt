-- An archive in memory.
use Rattle.std.specs.Prelude.{◌≡◌, ◌==◌, ⊤, ℕ, ℤ, pos, Bool, false, List, Option, Some, None, if◌then◌else◌}
use Rattle.records.specs.Contents.{Content}
use Rattle.records.specs.declared.record.Record.{Record}
use Rattle.archive.specs.declared.fault.StoreFault.{StoreFault}
use Rattle.archive.specs.declared.fault.StoreFault.TheVariants.{OutOfMemory}
use Rattle.archive.specs.Store.{Store, faults_after, is_break}

pub record Listed : Type 0 where
  pub id : List ℕ
  pub number : ℕ
  pub records : Content
  pub faults : ℕ

-- its memory returns what was written, and it is never broken; a crash ends it, so what it may be
-- found to hold is what it holds
abbrev pub store_of : Listed → Store
store_of a = record {
  content = a.records;
  own = a.number;
  id = a.id;
  broken = false;
  failed = a.faults;
  honest = ⊤;
  may_hold = λ left. left ≡ a.records;
  meets = λ fault. fault ≡ OutOfMemory;
}

-- a fault, if any, is counted
abbrev pub failures : ℕ → Option StoreFault → ℕ
failures failed None = failed
failures failed (Some fault) = faults_after 1 failed

abbrev pub is_broken : Option StoreFault → Bool
is_broken None = false
is_broken (Some fault) = is_break fault

abbrev pub tick_from : ℕ → Record → ℤ
tick_from origin r = if r.origin == origin then r.tick else pos 0
