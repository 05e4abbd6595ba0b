-- What an archive holds more, once its own replica made some updates.
use Rattle.std.specs.Prelude.{◌≡◌, ℕ, ◌≤◌, ◌<ℤ◌, Bool, true, false, not, List, [], ◌∷◌, length, is_some, unwrap_or}
use Rattle.ua_binary.specs.declared.values.NodeId.{NodeId}
use Rattle.ua_binary.specs.declared.values.NodeId.TheVariants.{Named, Opaque}
use Rattle.ua_variant.specs.declared.update_type.HistoryUpdateType.{HistoryUpdateType}
use Rattle.ua_variant.specs.declared.update_type.HistoryUpdateType.TheVariants.{Insert, Update}
use Rattle.records.specs.Contents.{Content, top, put, Adds, finding}
use Rattle.records.specs.Records.{live_value, is_delete}
use Rattle.records.specs.Moments.{pico_of}
use Rattle.records.specs.declared.record.Record.{Record}

-- how many bytes a node's id has, where it is a text or a byte string
abbrev pub id_length : NodeId → ℕ
id_length node = elim node [ Named ns name ↦ length name | Opaque ns id ↦ length id | _ ↦ 0 ]

-- an insert needs that no value is live, a replacement and a delete that one is (Part 11,
-- PerformUpdateType)
abbrev pub is_possible : HistoryUpdateType → (live : Bool) → Bool
is_possible asked live = elim asked [ Insert ↦ not live | Update ↦ true | _ ↦ live ]

-- the record of an update that the replica of this number makes where R is held: the next of its
-- records, with a tick above all that are held, of what is possible there
pub record IsUpdateOf (own : ℕ) (R : Content) (r : Record) : Type 0 where
  pub origin : r.origin ≡ own
  pub next : finding R r ≡ Adds
  pub above : top R <ℤ r.tick
  pub possible : is_possible r.asked (is_some (live_value R r.node r.time)) ≡ true
  pub node : id_length r.node ≤ 256
  -- a value is written at the moment that its picoseconds say
  pub moment : is_delete r.asked ≡ false → pico_of r.time ≡ unwrap_or r.value.source_pico 0

-- the one content is the other with these records, each of an update that was made where those
-- before it were held
abbrev pub GrowsBy : List Record → ℕ → Content → Content → Type 0
GrowsBy [] own R S = S ≡ R
GrowsBy (r ∷ rs) own R S = IsUpdateOf own R r × GrowsBy rs own (put r R) S

-- some updates of the replica make the one of the other
abbrev pub Grows : ℕ → Content → Content → Type 0
Grows own R S = (rs : List Record) × GrowsBy rs own R S
