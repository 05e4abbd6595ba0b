-- Contents: what an archive holds, its merging, and where each record is found.
use Rattle.std.specs.Prelude.{◌≡◌, ℕ, ◌+◌, ◌≤◌, ◌<◌, ◌==◌, nat_lt, nat_le, max, ℤ, pos, ◌≤ℤ◌, ◌<ℤ◌, int_lt, int_le, true, false, not, if◌then◌else◌, List, [], ◌∷◌, ◌++◌, filter, map, slice_get, Option, Some, None, ◌⊎◌, ⊤}
use Rattle.std.specs.List.{list_any, range_with_len}
use Rattle.std.specs.declared.cmp.Ordering.TheVariants.{Less}
use Rattle.std.specs.Ordering.{is_eq}
use Rattle.std.specs.Option.{option_map_or}
use Rattle.std.specs.Int.{int_max}
use Rattle.stamp.specs.Limits.{greatest}
use Rattle.records.specs.Lists.{insert_sorted, sort_by, last, Has, Rises}
use Rattle.records.specs.Same.{same_record}
use Rattle.records.specs.Records.{name_cmp, record_stamp_cmp, is_beyond, is_delete, versions, live_value, modifications_at}
use Rattle.records.specs.declared.record.Record.{Record}
use Rattle.ua_variant.specs.declared.update_type.HistoryUpdateType.TheVariants.{Delete}
use Rattle.records.specs.declared.shown.Held.{Held}
use Rattle.records.specs.declared.shown.Entry.{Entry}

-- a finite map from names to records: its records, by name
abbrev pub Content : Type 0
Content = List Record

-- ---- the numbers and ticks of a content

-- an origin's greatest number, 0 where it has none
abbrev pub vec : Content → ℕ → ℕ
vec [] origin = 0
vec (r ∷ R) origin = max (if r.origin == origin then r.number else 0) (vec R origin)

-- the numbers of replicas 1 to 64 in this order, as a vector has them
unfoldable pub numbers_of : Content → List ℕ
numbers_of R = map (vec R) (range_with_len 1 64)

-- the greatest tick, 0 where there is none
abbrev pub top : Content → ℤ
top [] = pos 0
top (r ∷ R) = int_max r.tick (top R)

-- an origin's greatest tick, 0 where it has none
abbrev pub last_tick : Content → ℕ → ℤ
last_tick R origin = top (filter (λ r. r.origin == origin) R)

-- the content has a record of this name
abbrev pub HasName : Content → ℕ → ℕ → Type 0
HasName R origin number = (r : Record) × Has R r × ((r.origin ≡ origin) × (r.number ≡ number))

-- a content is closed where each origin's numbers are 1 to its last, and its ticks, each in its
-- limits, rise with them
pub record IsClosed (R : Content) : Type 0 where
  pub ordered : Rises name_cmp R
  pub numbers : (r : Record) → Has R r → 1 ≤ r.number
  pub whole : (origin number : ℕ) → 1 ≤ number → number ≤ vec R origin → HasName R origin number
  pub ticks : (r : Record) → Has R r → (pos 1 ≤ℤ r.tick) × (r.tick ≤ℤ pos greatest)
  pub rising : (r s : Record) → Has R r → Has R s → r.origin ≡ s.origin → r.number < s.number
      → r.tick <ℤ s.tick

-- ---- merging

-- no name has two records
abbrev pub AreCompatible : Content → Content → Type 0
AreCompatible R S =
    (r s : Record) → Has R r → Has S s → r.origin ≡ s.origin → r.number ≡ s.number → r ≡ s

-- each record of the one is in the other
abbrev pub IsWithin : Content → Content → Type 0
IsWithin R S = (r : Record) → Has R r → Has S r

-- the union: the records of the one, and those of the other whose names the one lacks
abbrev pub join : Content → Content → Content
join R S = sort_by name_cmp (R ++ filter (λ s. not (list_any (λ r. is_eq (name_cmp r s)) R)) S)

-- the content with one more record
abbrev pub put : Record → Content → Content
put = insert_sorted name_cmp

-- the part that a vector covers
abbrev pub cut : Content → (ℕ → ℕ) → Content
cut R v = filter (λ r. not (is_beyond v r)) R

-- ---- learning

-- the record is its origin's next, and its tick is in the limits and above the origin's last
pub record IsNext (R : Content) (r : Record) : Type 0 where
  pub number : r.number ≡ vec R r.origin + 1
  pub rises : last_tick R r.origin <ℤ r.tick
  pub within : r.tick ≤ℤ pos greatest

-- each of these, in order, is its origin's next, once those before it are there
abbrev pub AreNextInTurn : Content → List Record → Type 0
AreNextInTurn R [] = ⊤
AreNextInTurn R (r ∷ rs) = IsNext R r × AreNextInTurn (put r R) rs

-- what a record that is to be learned meets in a content
pub data Finding : Type 0 where
  Adds Holds Clash TickTooFar TickNotRising : Finding
  Gap : (held got : ℕ) → Finding

-- a number that is reached is held already, or clashes; else it has to be the next, and its tick in
-- the limits and above the origin's last
abbrev pub finding : Content → Record → Finding
finding R r =
    if nat_le r.number (vec R r.origin) then (if list_any (same_record r) R then Holds else Clash)
    else if nat_lt (vec R r.origin + 1) r.number then Gap (vec R r.origin) r.number
    else if int_lt (pos greatest) r.tick then TickTooFar
    else if int_le r.tick (last_tick R r.origin) then TickNotRising
    else Adds

-- the content after a record is learned; none where it is refused
abbrev pub learned : Content → Record → Option Content
learned R r = elim (finding R r) [ Adds ↦ Some (put r R) | Holds ↦ Some R | _ ↦ None ]

-- the content after these are learned in order, up to the first that is refused
abbrev pub merged : List Record → Content → Content
merged [] R = R
merged (r ∷ rs) R = option_map_or (merged rs) (learned R r) R

-- ---- where a record is found

-- at its node and source time, no record has a greater stamp
pub record IsLatest (R : Content) (r : Record) : Type 0 where
  pub there : Has R r
  pub above : (s : Record) → Has R s → s.node ≡ r.node → s.time ≡ r.time
      → (s ≡ r) ⊎ (record_stamp_cmp s r ≡ Less)

-- another record stands at its node and source time
abbrev pub HasOther : Content → Record → Type 0
HasOther R r = (s : Record) × Has R s × (s.node ≡ r.node) × (s.time ≡ r.time) × (s ≡ r → ⊥)

-- a record of a story is shown by the entry of the record behind it
pub record IsShownAt (rs : List Record) (es : List Entry) (k : ℕ) (r : Record) : Type 0 where
  pub place : slice_get rs k ≡ Some r
  pub next : Entry
  pub after : slice_get es (k + 1) ≡ Some next
  pub shows : next.value ≡ Some r.value

-- a write is the last of its story and the live value, or the next record's entry shows it
abbrev pub IsWriteFound : Content → Record → Type 0
IsWriteFound R r =
    ((last (versions R r.node r.time) ≡ Some r) × (h : Held) × (live_value R r.node r.time ≡ Some h)
    × (h.value ≡ r.value) × (h.time ≡ r.time))
    ⊎ ((k : ℕ) × IsShownAt (versions R r.node r.time) (modifications_at R r.node r.time) k r)

-- a delete is an entry of its kind, with its time, tick, origin and user
abbrev pub IsDeleteFound : Content → Record → Type 0
IsDeleteFound R r =
    (e : Entry) × Has (modifications_at R r.node r.time) e × (e.kind ≡ Delete) × (e.time ≡ r.time)
    × (e.tick ≡ r.tick) × (e.origin ≡ r.origin) × (e.user ≡ r.user)

abbrev pub IsFound : Content → Record → Type 0
IsFound R r =
    (is_delete r.asked ≡ true → IsDeleteFound R r) × (is_delete r.asked ≡ false → IsWriteFound R r)
