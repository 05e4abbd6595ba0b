-- What the queries answer, said of the content alone.
use Rattle.std.specs.Prelude.{◌≡◌, ℤ, ◌≤ℤ◌, true, false, Option, Some}
use Rattle.ua_binary.specs.declared.values.NodeId.{NodeId}
use Rattle.records.specs.Lists.{Has}
use Rattle.records.specs.Contents.{Content}
use Rattle.records.specs.Records.{live_value, modifications_at}
use Rattle.records.specs.declared.shown.Held.{Held}
use Rattle.records.specs.declared.shown.Entry.{Entry}
use Rattle.archive.specs.Reading.{is_past, follows}
use Rattle.archive.specs.declared.reading.Direction.{Direction}
use Rattle.archive.specs.declared.reading.LogPlace.{LogPlace}

-- the live value at its own time, which lies between the two, both ends in it
pub record IsInRange (R : Content) (node : NodeId) (from to : ℤ) (h : Held) : Type 0 where
  pub live : live_value R node h.time ≡ Some h
  pub low : from ≤ℤ h.time
  pub high : h.time ≤ℤ to

-- a modification at its own time, which lies between the two, both ends in it; it stands behind the
-- place, where one is given
pub record IsInLog (R : Content) (node : NodeId) (from to : ℤ) (after : Option LogPlace)
    (d : Direction) (e : Entry) : Type 0 where
  pub shown : Has (modifications_at R node e.time) e
  pub low : from ≤ℤ e.time
  pub high : e.time ≤ℤ to
  pub behind : follows d after e ≡ true

-- the live value at its own time, which is strictly beyond the one given; no live value beyond that
-- one stands before it
pub record IsNearest (R : Content) (node : NodeId) (time : ℤ) (d : Direction)
    (h : Held) : Type 0 where
  pub live : live_value R node h.time ≡ Some h
  pub past : is_past d time h.time ≡ true
  pub none_before : (other : Held) → live_value R node other.time ≡ Some other
      → is_past d time other.time ≡ true → is_past d other.time h.time ≡ false

-- no live value is strictly beyond the time
abbrev pub HasNonePast : Content → NodeId → ℤ → Direction → Type 0
HasNonePast R node time d =
    (h : Held) → live_value R node h.time ≡ Some h → is_past d time h.time ≡ false
