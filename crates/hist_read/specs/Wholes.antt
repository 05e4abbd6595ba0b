-- A whole read in words of its own: what stands at the origin, in the stretch, and at the far limit
-- (Part 11, 6.4.3).
use Rattle.std.specs.Prelude.{◌==◌, not, if◌then◌else◌, List, [], ◌∷◌, ◌++◌, filter}
use Rattle.std.specs.Ordering.{int_eq}
use Rattle.ua_binary.specs.declared.values.NodeId.{NodeId}
use Rattle.ua_services.specs.declared.history.ReadRawModifiedDetails.{ReadRawModifiedDetails as Details}
use Rattle.records.specs.Contents.{Content}
use Rattle.records.specs.declared.shown.Held.{Held}
use Rattle.records.specs.declared.shown.Entry.{Entry}
use Rattle.archive.specs.Reading.{log, in_direction}
use Rattle.hist_read.specs.declared.item.Item.{Item}
use Rattle.hist_read.specs.Asking.{origin_time, direction}
use Rattle.hist_read.specs.Reads.{values_inside, in_body, value_items, near, far, last_time}

-- the body without the value at the origin
abbrev pub behind_origin : Content → NodeId → Details → List Held
behind_origin R node q = filter (λ h. not (int_eq h.time (origin_time q))) (values_inside R node q)

-- some items, and the far bound behind the last of them
abbrev pub with_far : Content → NodeId → Details → List Item → List Item
with_far R node q items = items ++ far R node q (last_time (origin_time q) items) ∷ []

-- the body, where no bounds are asked for; else near bound, body without the origin's value, far
-- bound; with count 1 the near bound alone
abbrev pub whole_raw : Content → NodeId → Details → List Item
whole_raw R node q =
    if not q.return_bounds then value_items (values_inside R node q) else
    if q.num_values_per_node == 1 then near R node q ∷ [] else
    with_far R node q (near R node q ∷ value_items (behind_origin R node q))

-- the modifications of the body's times
abbrev pub whole_modified : Content → NodeId → Details → List Entry
whole_modified R node q = filter (λ e. in_body q e.time) (in_direction (direction q) (log R node))
