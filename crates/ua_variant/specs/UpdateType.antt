-- The numbers of updates (Part 11, HistoryUpdateType).
use Rattle.std.specs.Prelude.{ℕ}
use Rattle.ua_variant.specs.declared.update_type.HistoryUpdateType.{HistoryUpdateType}
use Rattle.ua_variant.specs.declared.update_type.HistoryUpdateType.TheVariants.{Insert, Replace, Update, Delete}

-- the number of a HistoryUpdateType (Part 11, 6.8)
abbrev pub update_number : HistoryUpdateType → ℕ
update_number asked = elim asked [ Insert ↦ 1 | Replace ↦ 2 | Update ↦ 3 | Delete ↦ 4 ]
