-- Whole runs of an intake's calls: what was fed, what was given out, and by which limit.
use Rattle.std.specs.Prelude.{◌≡◌, ◌++◌, ℕ, zero, suc, List, [], ◌∷◌, Option, None, Some, Ok, Err}
use Rattle.uacp.specs.declared.types.UacpFault.{UacpFault}
use Rattle.uacp.specs.Stream.{ChunkContent}
use Rattle.uacp.specs.Held.{IntakeState, next_of, after_next, GivesChunk}

-- what a call did; a feed that ran out of memory did nothing, and is none
pub data IntakeCall : Type 0 where
  -- feed took this piece
  Fed : List ℕ → IntakeCall
  -- set_limit set this limit
  Limited : ℕ → IntakeCall
  -- next_chunk gave this chunk
  Gave : ChunkContent → IntakeCall
  -- next_chunk gave none
  Waited : IntakeCall
  -- next_chunk gave this fault
  Refused : UacpFault → IntakeCall

-- what the calls promise
abbrev pub DoesIntakeCall : IntakeState → IntakeCall → IntakeState → Type 0
DoesIntakeCall old (Fed piece) new = new ≡ record old { waiting = old.waiting ++ piece }
DoesIntakeCall old (Limited receive_size) new = new ≡ record old { limit = receive_size }
DoesIntakeCall old (Gave piece) new =
    GivesChunk old (Ok (Some piece)) × (new ≡ after_next old (next_of old))
DoesIntakeCall old Waited new = GivesChunk old (Ok None) × (new ≡ after_next old (next_of old))
DoesIntakeCall old (Refused fault) new =
    GivesChunk old (Err fault) × (new ≡ after_next old (next_of old))

-- one call after the other
abbrev pub RunsIntake : IntakeState → List IntakeCall → IntakeState → Type 0
RunsIntake old [] new = new ≡ old
RunsIntake old (event ∷ events) new =
    (between : IntakeState) × DoesIntakeCall old event between × RunsIntake between events new

-- all the bytes that were fed
abbrev pub fed_of : List IntakeCall → List ℕ
fed_of [] = []
fed_of (Fed piece ∷ events) = piece ++ fed_of events
fed_of (Limited receive_size ∷ events) = fed_of events
fed_of (Gave piece ∷ events) = fed_of events
fed_of (Waited ∷ events) = fed_of events
fed_of (Refused fault ∷ events) = fed_of events

-- the chunks that were given out
abbrev pub given_of : List IntakeCall → List ChunkContent
given_of [] = []
given_of (Fed piece ∷ events) = given_of events
given_of (Limited receive_size ∷ events) = given_of events
given_of (Gave piece ∷ events) = piece ∷ given_of events
given_of (Waited ∷ events) = given_of events
given_of (Refused fault ∷ events) = given_of events

-- a first number, and then others
abbrev pub first : ℕ → (ℕ → ℕ) → ℕ → ℕ
first n others zero = n
first n others (suc k) = others k

-- The limit that was in force when each chunk was given out, from one at the start; after the last
-- chunk, the limit when a fault was given first, or else the limit at the end.
abbrev pub limits_of : ℕ → List IntakeCall → ℕ → ℕ
limits_of limit [] = λ _. limit
limits_of limit (Fed piece ∷ events) = limits_of limit events
limits_of limit (Limited receive_size ∷ events) = limits_of receive_size events
limits_of limit (Gave piece ∷ events) = first limit (limits_of limit events)
limits_of limit (Waited ∷ events) = limits_of limit events
limits_of limit (Refused fault ∷ events) = λ _. limit

-- what next_chunk gives where no whole chunk stands first: none, or this fault
abbrev pub ended : Option UacpFault → IntakeCall
ended None = Waited
ended (Some fault) = Refused fault

-- next_chunk gives nothing but this fault
abbrev pub OnlyRefuses : UacpFault → List IntakeCall → Type 0
OnlyRefuses fault [] = Unit {0}
OnlyRefuses fault (Fed piece ∷ events) = OnlyRefuses fault events
OnlyRefuses fault (Limited receive_size ∷ events) = OnlyRefuses fault events
OnlyRefuses fault (Gave piece ∷ events) = ⊥
OnlyRefuses fault (Waited ∷ events) = ⊥
OnlyRefuses fault (Refused other ∷ events) = (other ≡ fault) × OnlyRefuses fault events
