-- What passes on a connection, in order.
use Rattle.std.proofs.Common.{refl, sym, subst}
use Rattle.std.specs.Prelude.{◌≡◌, ℕ, List, [], ◌∷◌, ◌++◌, Option, Some, None}
use Rattle.std.specs.List.{flat_map}
use Rattle.std.specs.Io.KnownBytes.{Appends, Consumes, IsAtEnd, Keeps}

-- one call: a read gave these bytes, an empty list at the end of the input, or failed (None); or
-- these bytes were written
pub data LineEvent : Type 0 where
  Came : Option (List ℕ) → LineEvent
  Went : List ℕ → LineEvent

-- the bytes that one call read
abbrev pub came_in : LineEvent → List ℕ
came_in event = elim event [ Came (Some bytes) ↦ bytes | _ ↦ [] ]

-- all bytes that came
abbrev pub came_of : List LineEvent → List ℕ
came_of = flat_map came_in

-- all bytes that went
abbrev pub went_of : List LineEvent → List ℕ
went_of = flat_map (λ event. elim event [ Went bytes ↦ bytes | _ ↦ [] ])

-- nothing was read
abbrev pub AreWrites : List LineEvent → Type 0
AreWrites [] = Unit {0}
AreWrites (Came piece ∷ events) = ⊥
AreWrites (Went bytes ∷ events) = AreWrites events

-- the two ways of a connection: what a reader has left, and what a writer holds, where these are
-- known
pub record Ways : Type 0 where
  pub unread : Option (List ℕ)
  pub written : Option (List ℕ)

-- one call, between two states of them
abbrev pub PassesOne : Ways → LineEvent → Ways → Type 0
PassesOne a (Came None) b = Keeps a.unread b.unread × Keeps a.written b.written
PassesOne a (Came (Some bytes)) b =
    Consumes a.unread b.unread bytes × (bytes ≡ [] → IsAtEnd b.unread) × Keeps a.written b.written
PassesOne a (Went bytes) b = Keeps a.unread b.unread × Appends a.written b.written bytes

-- this passed between two states of them
abbrev pub Passes : Ways → List LineEvent → Ways → Type 0
Passes a [] b = a ≡ b
Passes a (event ∷ events) b = (between : Ways) × PassesOne a event between × Passes between events b

pub passes-none : (a : Ways) → Passes a [] a
passes-none a = refl

pub passes-more : (a b c : Ways) (xs ys : List LineEvent) → Passes a xs b → Passes b ys c
    → Passes a (xs ++ ys) c
passes-more a b c [] ys p q = let P : Ways → Type 0 = λ w. Passes w ys c in subst P (sym p) q
passes-more a b c (x ∷ xs) ys p q = (p.0, p.1, passes-more p.0 b c xs ys p.2 q)
