-- An archive that fails where it is told to.
use Rattle.std.specs.Prelude.{◌≡◌, ◌⊎◌, ⊤, ℕ, ◌-◌, max, ◌==◌, ◌&&◌, ◌||◌, Bool, true, false, if◌then◌else◌, Option, Some, IfSome}
use Rattle.archive.specs.declared.fault.StoreFault.{StoreFault}
use Rattle.archive.specs.declared.fault.StoreFault.TheVariants as store
use Rattle.archive.specs.declared.scripted.Failure.{Failure}
use Rattle.archive.specs.declared.scripted.Failure.TheVariants.{OutOfMemory, Refused, BrokenBefore, BrokenAfter}
use Rattle.archive.specs.Store.{Store}
use Rattle.archive.specs.Listed.{Listed}
use Rattle.records.specs.Contents.{Content, Adds, finding, put}
use Rattle.records.specs.declared.record.Record.{Record}

pub record Scripted : Type 0 where
  pub inner : Listed
  -- calls of learn are counted alone
  pub learns_alone : Bool
  -- the call that fails, counted from the next one; 0 for none
  pub countdown : ℕ
  pub failure : Failure
  pub broken : Bool
  pub faults : ℕ
  pub greatest_limit : ℕ

-- the faults that a script may name
abbrev pub IsScripted : StoreFault → Type 0
IsScripted fault = (fault ≡ store.OutOfMemory) ⊎ (fault ≡ store.Refused) ⊎ (fault ≡ store.Broken)

-- behind a break it may be found to hold what it holds
abbrev pub scripted_store : Scripted → Store
scripted_store a = record {
  content = a.inner.records;
  own = a.inner.number;
  id = a.inner.id;
  broken = a.broken;
  failed = a.faults;
  honest = ⊤;
  may_hold = λ left. left ≡ a.inner.records;
  meets = IsScripted;
}

-- ---- the script

abbrev pub fault_of : Failure → StoreFault
fault_of OutOfMemory = store.OutOfMemory
fault_of Refused = store.Refused
fault_of BrokenBefore = store.Broken
fault_of BrokenAfter = store.Broken

-- a call of this kind is counted
abbrev pub is_counted : Scripted → (is_learn : Bool) → Bool
is_counted a is_learn = is_learn || (if a.learns_alone then false else true)

-- it is the one that fails
abbrev pub is_due : Scripted → (is_learn : Bool) → Bool
is_due a is_learn = is_counted a is_learn && a.countdown == 1

-- what a call with this limit, 0 where it has none, does to the script, and the fault that it
-- answers
pub record Follows (old new : Scripted) (is_learn : Bool) (limit : ℕ)
    (fault : Option StoreFault) : Type 0 where
  pub noted : new.greatest_limit ≡ max old.greatest_limit limit
  pub counted : old.broken ≡ false
      → new.countdown ≡ (if is_counted old is_learn then old.countdown - 1 else old.countdown)
  pub failure : new.failure ≡ old.failure
  pub alone : new.learns_alone ≡ old.learns_alone
  -- the call that is due fails as the script says; another one meets nothing but want of memory
  pub due : old.broken ≡ false → is_due old is_learn ≡ true → fault ≡ Some (fault_of old.failure)
  pub other : old.broken ≡ false → is_due old is_learn ≡ false
      → IfSome fault (λ f. f ≡ store.OutOfMemory)

-- a content as it was, or with a record that it takes in
abbrev pub IsOldOrWith : Record → Content → Content → Type 0
IsOldOrWith r R S = (S ≡ R) ⊎ ((finding R r ≡ Adds) × (S ≡ put r R))
