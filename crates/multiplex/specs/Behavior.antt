-- What a handler's calls do to it, and to the world that it shares with others.
use Rattle.std.specs.Prelude.{ℕ, Bool, List, Option}
use Rattle.multiplex.specs.declared.handler.SlotEnd.{SlotEnd}
use Rattle.multiplex.specs.declared.stay.Origin.{Origin}
use Rattle.multiplex.specs.declared.stay.Stay.{Stay}

-- how a handler begins, takes bytes and answers; `made` is what is to be written for it, and the
-- end is there where the connection ends so
pub record Behavior (H V E : Type 0) : Type 1 where
  -- it is this time, the longest turn so far took so long, and the world was told
  pub passes : V → (now longest_turn : ℕ) → V → Type 0
  -- nobody is to be served over this world any more
  pub is_over : V → Bool
  -- nothing came yet on a connection that was accepted and came from there, and the world was told
  pub begins : Origin → V → H → V → Type 0
  -- a callee of this number was called over the world; none where that can't be
  pub calls : (callee : ℕ) → V → (made : List ℕ) → Option H → V → Type 0
  -- these bytes came
  pub receives : H → (bytes made : List ℕ) → (end : Option E) → H → Type 0
  -- what stood first on a connection of which this is known was answered over the world, if it was
  -- whole
  pub answers : Stay → V → H → (made : List ℕ) → (end : Option E) → V → H → Type 0
  -- nothing whole stands first in what came
  pub needs_more : H → Type 0
  -- so many milliseconds the answer waits before it is written that was made last, over this world,
  -- on a connection of which this is known
  pub delay : Stay → V → H → ℕ
  -- it needn't make place for the next connection
  pub is_established : H → Bool
  -- its connection, of which this is known, ended so, and the world was told
  pub closes : Stay → V → H → SlotEnd E → V → Type 0
  -- a connection came at a listener at this time and failed, and the world was told
  pub fails_accept : V → (now : ℕ) → V → Type 0
  -- what all of these may do to the world, one after the other
  pub moves : V → V → Type 0

-- moves add up, from none, and what a handler's calls do to the world are moves
pub record MovesAddUp {H V E : Type 0} (handler : Behavior H V E) : Type 0 where
  pub none : (v : V) → handler.moves v v
  pub more : (u v w : V) → handler.moves u v → handler.moves v w → handler.moves u w
  pub passes : (v w : V) (now longest_turn : ℕ) → handler.passes v now longest_turn w
      → handler.moves v w
  pub begins : (origin : Origin) (v w : V) (h : H) → handler.begins origin v h w
      → handler.moves v w
  pub answers : (stay : Stay) (v w : V) (h h' : H) (made : List ℕ) (end : Option E)
      → handler.answers stay v h made end w h' → handler.moves v w
  pub calls : (callee : ℕ) (v w : V) (made : List ℕ) (h : Option H)
      → handler.calls callee v made h w
      → handler.moves v w
  pub closes : (stay : Stay) (v w : V) (h : H) (ending : SlotEnd E)
      → handler.closes stay v h ending w
      → handler.moves v w
  pub fails_accept : (v w : V) (now : ℕ) → handler.fails_accept v now w → handler.moves v w
