-- How values and modifications are shown (Part 4, 7.11; Part 11, HistoryData and
-- HistoryModifiedData).
use Rattle.std.specs.Prelude.{ℤ, if◌then◌else◌, Option, Some, None, unwrap_or, bit_or}
use Rattle.std.specs.Option.{option_map_or}
use Rattle.ua_binary.specs.declared.codes.Status.{Status}
use Rattle.ua_binary.specs.declared.codes.TheConstants.Status.{BAD_BOUND_NOT_FOUND}
use Rattle.ua_variant.specs.declared.data.DataValue.{DataValue}
use Rattle.records.specs.Moments.{ticks_of}
use Rattle.records.specs.Spelling.{empty}
use Rattle.records.specs.declared.shown.Entry.{Entry}
use Rattle.hist_read.specs.declared.item.Item.{Item}
use Rattle.hist_read.specs.declared.item.Item.TheVariants.{Value, Missing}
use Rattle.ua_services.specs.declared.attributes.TimestampsToReturn.{TimestampsToReturn}
use Rattle.ua_services.specs.declared.attributes.TimestampsToReturn.TheVariants.{Source, Server, Both, Neither}
use Rattle.ua_services.specs.declared.history.ModificationInfo.{ModificationInfo}

-- the bits ExtraData and the info type DataValue beside those of the status (Part 11, StatusCodes)
abbrev pub with_extra : Option Status → Option Status
with_extra s = Some (record { 0 = bit_or (option_map_or (λ c. c.0) s 0) 1032 })

-- a value with this source time, without its picoseconds
abbrev pub at_time : ℤ → DataValue → DataValue
at_time time v = record v { source_time = Some (record { 0 = ticks_of time }) }

-- a value with this status
abbrev pub with_status : Option Status → DataValue → DataValue
with_status status v = record v { status = status }

-- a live value as it is stored, with its source time; a missing bound has its time alone
abbrev pub item_value : Item → DataValue
item_value (Value h) =
    at_time h.time
    (with_status (if h.extra then with_extra h.value.status else h.value.status) h.value)
item_value (Missing time) = at_time time (with_status (Some BAD_BOUND_NOT_FOUND) empty)

-- the times that were asked for; where neither is, none
abbrev pub with_stamps : TimestampsToReturn → DataValue → DataValue
with_stamps stamps v =
    elim stamps [
      | Source ↦ record v { server_time = None; server_pico = None }
      | Server ↦ record v { source_time = None; source_pico = None }
      | Both ↦ v
      | Neither ↦ record v
          { source_time = None; source_pico = None; server_time = None; server_pico = None }
    ]

-- an item as the answer shows it
abbrev pub shown : TimestampsToReturn → Item → DataValue
shown stamps x = with_stamps stamps (item_value x)

-- the value of a modification, else its source time alone
abbrev pub shown_entry : TimestampsToReturn → Entry → DataValue
shown_entry stamps e = with_stamps stamps (at_time e.time (unwrap_or e.value empty))

-- when it was made, what it did, and who asked for it
abbrev pub info : Entry → ModificationInfo
info e =
    record
    { modification_time = record { 0 = e.tick }; update_type = e.kind; user_name = Some e.user }
