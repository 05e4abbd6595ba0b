-- Names for parts of the definitions in specs/Reads, for the lemmas on these parts.
use Rattle.std.specs.Prelude.{nat_lt, ℤ, Bool, not, ◌&&◌, if◌then◌else◌, List, [], ◌∷◌, length, Option, Some, None}
use Rattle.ua_binary.specs.declared.values.NodeId.{NodeId}
use Rattle.records.specs.Contents.{Content}
use Rattle.records.specs.declared.shown.Held.{Held}
use Rattle.archive.specs.Reading.{lives, in_direction}
use Rattle.hist_read.specs.Asking.{direction}
use Rattle.ua_services.specs.declared.history.ReadRawModifiedDetails.{ReadRawModifiedDetails as Details}
use Rattle.hist_read.specs.declared.point.Position.{Position}
use Rattle.hist_read.specs.declared.item.Item.{Item}
use Rattle.hist_read.specs.Reads.{far, is_near_alone, is_spent, near, page_size}

-- the far bound, behind items of which the last has this time
abbrev pub far_part : Content → NodeId → Details → ℤ → List Item
far_part R node q before = if q.return_bounds && not (is_near_alone q) then far R node q before
    ∷ [] else []

abbrev pub lives_in : Content → NodeId → Details → List Held
lives_in R node q = in_direction (direction q) (lives R node)

-- a further page exists where something follows and the total isn't spent
abbrev pub goes_on : {X : Type 0} → Details → Option Position → List X → Bool
goes_on q p items = nat_lt (page_size q p) (length items) && not (is_spent q p)

-- the near bound, where it wasn't given yet
abbrev pub near_part : Content → NodeId → Details → Option Position → List Item
near_part R node q given = elim given [
  | None ↦
      if q.return_bounds then near R node q ∷ [] else []
  | Some p ↦ []
]
