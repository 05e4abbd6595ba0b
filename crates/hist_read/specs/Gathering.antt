-- Values and modifications that the archive is asked for a few at a time.
use Rattle.std.specs.Prelude.{◌≡◌, ℕ, ◌<◌, ◌≤◌, ℤ, ◌≤ℤ◌, Bool, false, ◌+◌, List, map, take, drop, length, Option, IfSome, unwrap_or}
use Rattle.ua_binary.specs.declared.values.NodeId.{NodeId}
use Rattle.ua_variant.specs.declared.data.DataValue.{DataValue}
use Rattle.ua_services.specs.declared.history.ReadRawModifiedDetails.{ReadRawModifiedDetails as Details}
use Rattle.records.specs.Contents.{Content}
use Rattle.records.specs.Spelling.{empty}
use Rattle.records.specs.declared.shown.Entry.{Entry}
use Rattle.archive.specs.declared.reading.LogPlace.{LogPlace}
use Rattle.hist_read.specs.Asking.{first_time}
use Rattle.hist_read.specs.Reads.{values_beyond, body_part, entries_behind, modified, page_size}
use Rattle.hist_read.specs.Carrying.{values_length}
use Rattle.hist_read.specs.declared.raw.Gathered.{Gathered}
use Rattle.hist_read.specs.declared.modified.GatheredEntries.{GatheredEntries}
use Rattle.hist_read.specs.declared.point.Position.{Position}

-- the first of the values beyond a moment were gathered, and no more than are wanted (few); the
-- others are beyond the moment that was reached, which isn't before the first that can be asked
-- for (late)
pub record IsGathered (R : Content) (node : NodeId) (q : Details) (start : Option ℤ)
    (g : Gathered) : Type 0 where
  pub first : g.values.items ≡ take (length g.values.items) (values_beyond R node q start)
  pub others : values_beyond R node q g.reached
      ≡ drop (length g.values.items) (values_beyond R node q start)
  pub late : IfSome g.reached (λ t. first_time ≤ℤ t)
  pub few : length g.values.items ≤ g.wanted

-- the same, and where no more are wanted, all that are wanted were gathered
abbrev pub GathersOn : Content → NodeId → Details → (start : Option ℤ) → (more : Bool) → Gathered
    → Type 0
GathersOn R node q start more g =
    IsGathered R node q start g
    × (more ≡ false → g.values.items ≡ take g.wanted (values_beyond R node q start))

-- the first of these, so few that the page shows them all, have more bytes than the limit
abbrev pub AreTooLong : {X : Type 0} → (X → DataValue) → (room : ℕ) → List X → (limit : ℕ) → Type 0
AreTooLong value room xs limit =
    (k : ℕ) × (k < room) × (limit < values_length (map value (take k xs)))

-- the first values behind a page's near bound are so
abbrev pub IsBodyTooLong : Content → NodeId → Details → Option Position → (limit : ℕ) → Type 0
IsBodyTooLong R node q p = AreTooLong (λ h. h.value) (page_size q p) (body_part R node q p)

-- ---- modifications

-- the value that a modification shows, or an empty one
abbrev pub value_in : Entry → DataValue
value_in e = unwrap_or e.value empty

-- the first of the modifications behind a place were gathered, and no more than are wanted (few);
-- the others stand behind the place that was reached
pub record AreGathered (R : Content) (node : NodeId) (q : Details) (start : Option LogPlace)
    (g : GatheredEntries) : Type 0 where
  pub first : g.entries.items ≡ take (length g.entries.items) (entries_behind R node q start)
  pub others : entries_behind R node q g.reached
      ≡ drop (length g.entries.items) (entries_behind R node q start)
  pub few : length g.entries.items ≤ g.wanted

-- the same, and where no more are wanted, all that are wanted were gathered
abbrev pub EntriesGatherOn : Content → NodeId → Details → (start : Option LogPlace) → (more : Bool)
    → GatheredEntries → Type 0
EntriesGatherOn R node q start more g =
    AreGathered R node q start g
    × (more ≡ false → g.entries.items ≡ take g.wanted (entries_behind R node q start))

-- the first modifications, so few that the page shows them all, have values of more bytes than the
-- limit
abbrev pub AreModifiedTooLong : Content → NodeId → Details → Option Position → (limit : ℕ) → Type 0
AreModifiedTooLong R node q p = AreTooLong value_in (page_size q p + 1) (modified R node q p)
