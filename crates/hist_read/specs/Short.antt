-- What may be written of a read.
use Rattle.std.specs.Prelude.{◌<◌, ◌^◌, List, length, map, IfSome}
use Rattle.std.specs.List.{All}
use Rattle.ua_variant.specs.declared.data.DataValue.{DataValue}
use Rattle.ua_variant.specs.DataValue.{data_value, IsPicoseconds}
use Rattle.ua_services.specs.declared.history.HistoryData.{HistoryData}
use Rattle.ua_services.specs.declared.history.HistoryData.TheVariants as owned
use Rattle.ua_services.specs.History.{info_fields, history_bytes, Raw, Modified}

-- its picoseconds are within their limit, and its bytes can be counted
abbrev pub IsWritable : DataValue → Type 0
IsWritable v =
    IfSome v.source_pico IsPicoseconds × IfSome v.server_pico IsPicoseconds
    × (length (data_value.canon v) < 2 ^ 31)

-- these of values, whose number can be counted too
abbrev pub AreWritable : List DataValue → Type 0
AreWritable values = All IsWritable values × (length values < 2 ^ 31)

-- the same of all that was read, and of its body
abbrev pub IsWritableHistory : HistoryData → Type 0
IsWritableHistory owned.Nothing = Unit {0}
IsWritableHistory (owned.Raw values) =
    AreWritable values × (length (history_bytes (Raw values)) < 2 ^ 31)
IsWritableHistory (owned.Modified values infos) =
    AreWritable values
    × (length (history_bytes (Modified (values, map info_fields infos))) < 2 ^ 31)
