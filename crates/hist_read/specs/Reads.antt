-- What a read of a node's history shows (Part 11, ReadRawModifiedDetails): the values or
-- modifications of a stretch of time, its bounds, and pages of them. Every list is in the direction
-- of the read.
use Rattle.std.specs.Prelude.{ℕ, ◌+◌, ◌-◌, ◌==◌, min, nat_lt, nat_le, ℤ, pos, negsuc, ◌+ℤ◌, ◌-ℤ◌, Bool, true, not, ◌&&◌, ◌||◌, if◌then◌else◌, List, [], ◌∷◌, ◌++◌, filter, map, take, length, Option, Some, None, option_map}
use Rattle.std.specs.Option.{option_or, option_map_or, option_and_then}
use Rattle.std.specs.Ordering.{int_eq}
use Rattle.std.specs.Int.{int_min, int_max}
use Rattle.ua_binary.specs.declared.values.NodeId.{NodeId}
use Rattle.records.specs.Moments.{moment, ticks_of}
use Rattle.records.specs.Contents.{Content}
use Rattle.records.specs.Lists.{last}
use Rattle.records.specs.Records.{live_value}
use Rattle.records.specs.declared.shown.Held.{Held}
use Rattle.records.specs.declared.shown.Entry.{Entry}
use Rattle.archive.specs.Reading.{lives, log, in_direction, is_between, is_past, follows, place_of, outside_of}
use Rattle.archive.specs.declared.reading.Direction.{Direction}
use Rattle.archive.specs.declared.reading.Direction.TheVariants.{Forward, Backward}
use Rattle.archive.specs.declared.reading.LogPlace.{LogPlace}
use Rattle.hist_read.specs.Asking.{has_both, origin_time, far_limit, direction}
use Rattle.ua_services.specs.declared.history.ReadRawModifiedDetails.{ReadRawModifiedDetails as Details}
use Rattle.hist_read.specs.declared.point.Phase.TheVariants.{Near, Body}
use Rattle.hist_read.specs.declared.point.Position.{Position}
use Rattle.hist_read.specs.declared.item.Item.{Item}
use Rattle.hist_read.specs.declared.item.Item.TheVariants.{Value, Missing}

-- the greatest Int64
abbrev pub greatest_ticks : ℤ
greatest_ticks = pos 9223372036854775807

-- the last moment that a source time can be
abbrev pub greatest_time : ℤ
greatest_time = moment greatest_ticks 9999

-- the last moment of the time of which this is the first
abbrev pub last_within : ℤ → ℤ
last_within first = first +ℤ pos 9999

-- ---- the body

-- at a limit or beyond it
abbrev pub is_from : Direction → ℤ → ℤ → Bool
is_from d limit time = int_eq time limit || is_past d limit time

-- from the origin, which is in it, to the far limit, which isn't; all moments of the one time where
-- both are equal
abbrev pub in_body_of : Direction → ℤ → Option ℤ → ℤ → Bool
in_body_of d o given time =
    elim given [
      | None ↦ is_from d o time
      | Some f ↦ if int_eq o f then is_between o (last_within o) time
          else is_from d o time && is_past d time f
    ]

-- a time lies in the stretch that is asked for, its bounds apart
abbrev pub in_body : Details → ℤ → Bool
in_body q = in_body_of (direction q) (origin_time q) (far_limit q)

-- the live values inside of the stretch, in the direction of the read
abbrev pub values_inside : Content → NodeId → Details → List Held
values_inside R node q = filter (λ h. in_body q h.time) (in_direction (direction q) (lives R node))

-- ---- the bounds

-- the value at a time, else the nearest one beyond it in the direction
abbrev pub nearest_from : Content → NodeId → Direction → ℤ → Option Held
nearest_from R node d time = option_or (live_value R node time) (outside_of R node time d)

-- a value, or that there is none at this time
abbrev pub value_or_missing : ℤ → Option Held → Item
value_or_missing time found = option_map_or (λ h. Value h) found (Missing time)

-- the value at the origin, else the nearest one against the direction, else none there
abbrev pub near : Content → NodeId → Details → Item
near R node q =
    value_or_missing (origin_time q)
    (nearest_from R node (elim (direction q) [ Forward ↦ Backward | Backward ↦ Forward ])
    (origin_time q))

-- the time of an item
abbrev pub item_time : Item → ℤ
item_time item = elim item [ Value h ↦ h.time | Missing time ↦ time ]

-- the time of the last item, else this one
abbrev pub last_time : ℤ → List Item → ℤ
last_time time items = option_map_or item_time (last items) time

-- the far bound of an open limit, one second beyond the item before it, within an Int64
abbrev pub open_bound : Direction → ℤ → Item
open_bound Forward time =
    Missing (moment (int_min greatest_ticks (ticks_of time +ℤ pos 10000000)) 0)
open_bound Backward time =
    Missing (moment (int_max (negsuc 9223372036854775807) (ticks_of time -ℤ pos 10000000)) 0)

-- the value at the far limit, else the nearest one beyond it; beyond it where the origin is the
-- limit
abbrev pub far_value : Content → NodeId → Details → ℤ → Option Held
far_value R node q f =
    if int_eq (origin_time q) f then outside_of R node (last_within f) (direction q)
    else nearest_from R node (direction q) f

-- the far bound, behind an item of this time
abbrev pub far : Content → NodeId → Details → ℤ → Item
far R node q before =
    option_map_or (λ f. value_or_missing f (far_value R node q f)) (far_limit q)
    (open_bound (direction q) before)

-- ---- raw values: what is still to come

-- bounds asked for with count 1: the near bound is all
abbrev pub is_near_alone : Details → Bool
is_near_alone q = q.return_bounds && q.num_values_per_node == 1

-- the moment behind which a raw read goes on
abbrev pub limit_at : Details → Option Position → Option ℤ
limit_at q given =
    elim given [
      | None ↦ if q.return_bounds then Some (origin_time q) else None
      | Some p ↦ Some (elim p.phase [ Near ↦ origin_time q | Body ↦ p.time ])
    ]

-- beyond a limit, where there is one
abbrev pub is_past_any : Direction → Option ℤ → ℤ → Bool
is_past_any d limit time = option_map_or (λ l. is_past d l time) limit true

-- the values inside of the stretch that are beyond a moment, where one is given
abbrev pub values_beyond : Content → NodeId → Details → Option ℤ → List Held
values_beyond R node q limit =
    filter (λ h. is_past_any (direction q) limit h.time) (values_inside R node q)

-- the values of the body that are still to come
abbrev pub body_part : Content → NodeId → Details → Option Position → List Held
body_part R node q p = if is_near_alone q then [] else values_beyond R node q (limit_at q p)

-- values as items of a read
abbrev pub value_items : List Held → List Item
value_items = map (λ h. Value h)

-- the time of the item that was given last
abbrev pub time_before : Details → Option Position → ℤ
time_before q place = option_map_or (λ p. p.time) place (origin_time q)

-- the items of a raw read up to its far bound
abbrev pub before_far : Content → NodeId → Details → Option Position → List Item
before_far R node q p =
    (elim p [ None ↦ if q.return_bounds then near R node q ∷ [] else [] | Some p ↦ [] ])
    ++ value_items (body_part R node q p)

-- the items of a raw read that follow a place, or all of them
abbrev pub raw : Content → NodeId → Details → Option Position → List Item
raw R node q p =
    before_far R node q p
    ++
    (if q.return_bounds && not (is_near_alone q)
    then far R node q (last_time (time_before q p) (before_far R node q p)) ∷ [] else [])

-- ---- modifications: what is still to come

-- the place in the log behind which a read of modifications goes on
abbrev pub place_at : Option Position → Option LogPlace
place_at place =
    option_and_then (λ p. option_map (λ s. record { time = p.time; stamp = s }) p.stamp) place

-- the modifications of the body's times that stand behind a place in the log, where one is given
abbrev pub entries_behind : Content → NodeId → Details → Option LogPlace → List Entry
entries_behind R node q after =
    filter (follows (direction q) after)
    (filter (λ e. in_body q e.time) (in_direction (direction q) (log R node)))

-- the modifications that are still to come
abbrev pub modified : Content → NodeId → Details → Option Position → List Entry
modified R node q p = entries_behind R node q (place_at p)

-- ---- pages

-- how many items were given by the pages before
abbrev pub given_before : Option Position → ℕ
given_before place = option_map_or (λ p. p.given) place 0

-- the most items of a page: 1,000; the count limits each page where both times are given, and else
-- the whole
abbrev pub page_size : Details → Option Position → ℕ
page_size q p =
    if q.num_values_per_node == 0 then 1000
    else min 1000
    (if has_both q then q.num_values_per_node else q.num_values_per_node - given_before p)

-- the most items of any page of a read
abbrev pub most_items : Details → ℕ
most_items q = if q.num_values_per_node == 0 then 1000 else min 1000 q.num_values_per_node

-- no more than the count, where a time is open
abbrev pub is_spent : Details → Option Position → Bool
is_spent q p = not (has_both q) && nat_le q.num_values_per_node (given_before p + page_size q p)

-- the items of one page
abbrev pub page : {X : Type 0} → Details → Option Position → List X → List X
page q p items = take (page_size q p) items

-- how many items were given with this page
abbrev pub given_after : Details → Option Position → ℕ
given_after q p = if has_both q then 0 else given_before p + page_size q p

-- the place where a page ends behind which another one exists
abbrev pub raw_position : Details → Option Position → Item → Position
raw_position q p x =
    record { phase = Body; time = item_time x; stamp = None; given = given_after q p }

-- where a page of modifications ends that ends with this entry
abbrev pub modified_position : Details → Option Position → Entry → Position
modified_position q p e =
    record { phase = Body; time = e.time; stamp = Some (place_of e).stamp; given = given_after q p }

-- where the next page goes on, where there is more and the count isn't spent
abbrev pub next_place : {X : Type 0} → (X → Position) → Details → Option Position → List X
    → Option Position
next_place position_of q p items =
    if nat_lt (page_size q p) (length items) && not (is_spent q p)
    then option_map position_of (last (page q p items)) else None
