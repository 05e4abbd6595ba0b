-- What an answering gets from outside: what comes in the way of its steps, and the time.
use Rattle.std.specs.Prelude.{◌≡◌, ℤ, pos, true, false, List, [], ◌∷◌, ◌++◌, if◌then◌else◌}
use Rattle.ua_binary.specs.declared.values.Ticks.{Ticks}
use Rattle.archive.specs.Store.{StepResult, NoMemory}
use Rattle.archive.specs.Steps.{Fallible, step, and_then}

-- a mark for each step that something may come in the way of, and the readings of the clock
abbrev pub Environment : Type 0
Environment = record { marks : List StepResult; readings : List ℤ }

-- nothing comes in the way, and the time isn't asked for
abbrev pub empty_environment : Environment
empty_environment = record { marks = []; readings = [] }

-- what was used, before what is left for later
abbrev pub before : Environment → Environment → Environment
before used later =
    record { marks = used.marks ++ later.marks; readings = used.readings ++ later.readings }

-- what depends on the outside: its value, and what of the outside is left
abbrev pub WithEnvironment : Type 0 → Type 0
WithEnvironment A = Environment → (A × Environment)

-- steps that don't ask for the time
abbrev pub by_marks : {A : Type 0} → Fallible A → WithEnvironment A
by_marks marked outside = let a = marked outside.marks in (a.0, record outside { marks = a.1 })

-- a step that takes memory: the first where memory is there, the second where it is wanting
abbrev pub or_out_of_memory : {A : Type 0} → WithEnvironment A → WithEnvironment A
    → WithEnvironment A
or_out_of_memory went starved =
    and_then (by_marks (step (λ mark. elim mark [ NoMemory ↦ true | _ ↦ false ])))
    (λ starves. if starves then starved else went)

-- the next reading of the clock
abbrev pub clock : WithEnvironment Ticks
clock outside =
    let r : Ticks × List ℤ =
    elim outside.readings
    [ [] ↦ (record { 0 = pos 0 }, []) | now ∷ readings ↦ (record { 0 = now }, readings) ] in
    (r.0, record outside { readings = r.1 })

-- by this, and no more, of the outside the value is a
pub record YieldsWith {A : Type 0} (given : WithEnvironment A) (used : Environment)
    (a : A) : Type 0 where
  pub does : (later : Environment) → given (before used later) ≡ (a, later)
