-- Records of one name: those that came from a peer beside those that are held.
use Rattle.std.specs.Prelude.{◌≡◌, ℕ, List, ◌∷◌, ◌++◌, Option, Some, None}
use Rattle.records.specs.Lists.{Has}
use Rattle.records.specs.Contents.{Content, HasName, AreCompatible}
use Rattle.records.specs.declared.record.Record.{Record}
use Rattle.peer_check.specs.declared.comparing.Clash.{Clash}

-- what is found of a name: its record, or that none is held
abbrev pub FindsName : Content → (origin number : ℕ) → Option Record → Type 0
FindsName R origin number found = elim found [
  | Some r ↦ Has R r × ((r.origin ≡ origin) × (r.number ≡ number))
  | None ↦ HasName R origin number → ⊥
]

-- the one is held, both have one name, and they are two
pub record IsClash (R : Content) (clash : Clash) : Type 0 where
  pub held : Has R clash.held
  pub origin : clash.held.origin ≡ clash.brought.origin
  pub number : clash.held.number ≡ clash.brought.number
  pub differ : clash.held ≡ clash.brought → ⊥

-- this one stands among these behind such that differ from none that is held by their name
abbrev pub StandsBehind : Content → (brought : List Record) → Record → Type 0
StandsBehind R brought r =
    (before : List Record) × (after : List Record) × (brought ≡ before ++ (r ∷ after))
    × AreCompatible R before

-- what comparing records with a content finds: none of them differs from one that is held by its
-- name; or the first that does, and that one
abbrev pub FindsClash : Content → (brought : List Record) → Option Clash → Type 0
FindsClash R brought found = elim found [
  | None ↦ AreCompatible R brought
  | Some clash ↦ IsClash R clash × StandsBehind R brought clash.brought
]
