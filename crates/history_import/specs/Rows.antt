-- What a row of a CSV comes to: one update of one value (Part 11, 6.8.2), or why it asks for none.
use Rattle.std.specs.Prelude.{◌≡◌, ◌⊎◌, ◌==◌, ◌||◌, ◌&&◌, not, ℕ, nat_le, nat_lt, nat_eq, ℤ, pos, Bool, true, false, if◌then◌else◌, List, [], ◌∷◌, codes, length, Option, Some, None, Result, Ok, Err, ok_or}
use Rattle.std.specs.Result.{result_map_both}
use Rattle.std.specs.Str.{is_utf8}
use Rattle.std.specs.Cmp.Lexicographic.{pointwise}
use Rattle.ua_binary.specs.Format.{◌>>=◌}
use Rattle.ua_binary.specs.declared.codes.Status.{Status}
use Rattle.ua_binary.specs.declared.codes.TheConstants.Status.{BAD_ENCODING_LIMITS_EXCEEDED}
use Rattle.ua_variant.specs.DataValue.{data_value}
use Rattle.ua_variant.specs.declared.value.ValueType.{ValueType}
use Rattle.ua_services.specs.Updates.{Details, UpdateData}
use Rattle.ua_services.specs.declared.updates.HistoryUpdateResult.{HistoryUpdateResult}
use Rattle.ua_session.specs.Users.{Allowed, access_of}
use Rattle.ua_session.specs.declared.identity.Access.{Access}
use Rattle.ua_session.specs.declared.identity.Access.TheVariants.{Read, Write}
use Rattle.records.specs.Moments.{ticks_of, pico_of}
use Rattle.records.specs.Contents.{Content}
use Rattle.records.specs.Spelling.{longest}
use Rattle.archive.specs.Steps.{Fallible, give, memory, and_then}
use Rattle.history_csv.specs.Nodes.{node_in}
use Rattle.history_csv.specs.Rows.{row_of}
use Rattle.history_csv.specs.declared.fields.Row.{Row}
use Rattle.history_csv.specs.declared.fault.RowFault.TheVariants.{Fields, Node, OutOfMemory}
use Rattle.historian.specs.UserSpaces.{UserSpace}
use Rattle.historian.specs.Updating.{type_granted, update_item}
use Rattle.history_import.specs.declared.asked.Import.{Import}
use Rattle.history_import.specs.declared.asked.Perform.{Perform}
use Rattle.history_import.specs.declared.asked.Perform.TheVariants.{Insert, Replace, Update as Overwrite}
use Rattle.history_import.specs.declared.update.Update.{Update}
use Rattle.history_import.specs.declared.row_end.RowEnd.{RowEnd}
use Rattle.history_import.specs.declared.row_end.RowEnd.TheVariants.{NotText, NoRow, Answered}

-- ---- in whose name

-- who may do this may update histories
abbrev pub is_writers : Access → Bool
is_writers access = elim access [ Read ↦ false | Write ↦ true ]

-- a user who is let in and may update histories; a user's name has at most 256 bytes
abbrev pub may_write : Allowed → List ℕ → Bool
may_write users name =
    nat_le (length name) 256
    && (users.anonymous || not (pointwise nat_eq name (codes "anonymous")))
    && is_writers (access_of users name)

-- ---- what a row asks for

-- the number of what is asked for (Part 11, PerformUpdateType)
abbrev pub perform_number : Perform → ℤ
perform_number perform = elim perform [ Insert ↦ pos 1 | Replace ↦ pos 2 | Overwrite ↦ pos 3 ]

-- each of them is UTF-8
abbrev pub are_utf8 : List (List ℕ) → Bool
are_utf8 [] = true
are_utf8 (field ∷ fields) = is_utf8 field && are_utf8 fields

-- the first field of a row, where it has four
abbrev pub node_field : List (List ℕ) → Option (List ℕ)
node_field (node ∷ time ∷ value ∷ status ∷ []) = Some node
node_field _ = None

-- the type of the variable of a row, which HistoryUpdate would grant the user, or why there is none
abbrev pub row_type : UserSpace → List (List ℕ) → Result ValueType RowEnd
row_type seen fields =
    ok_or (node_field fields) (NoRow Fields) >>= λ text.
    ok_or (node_in text) (NoRow Node) >>= λ id.
    result_map_both (λ type. type) Answered (type_granted seen (Some id))

-- the picoseconds of a moment, where it has some
abbrev pub some_pico : ℤ → Option ℕ
some_pico time = if pico_of time == 0 then None else Some (pico_of time)

-- a status, where it isn't 0: a value is Good without one
abbrev pub some_status : Status → Option Status
some_status status = if status.0 == 0 then None else Some status

-- what a row asks for: its value, with its source time, for its node
abbrev pub update_by : Row → Update
update_by row =
    record {
      node = row.node;
      value = record {
        value = row.value;
        status = some_status row.status;
        source_time = Some (record { 0 = ticks_of row.time });
        source_pico = some_pico row.time;
        server_time = None;
        server_pico = None;
      };
    }

-- an update whose value isn't longer than a record may be
abbrev pub unless_too_long : Update → Result Update RowEnd
unless_too_long update =
    if nat_lt longest (length (data_value.canon update.value))
    then Err (Answered BAD_ENCODING_LIMITS_EXCEEDED) else Ok update

-- what the fields of a row ask for, whose value is read by the variable's type; or why for nothing
abbrev pub row_judged : UserSpace → List (List ℕ) → Result Update RowEnd
row_judged seen fields =
    row_type seen fields >>= λ type.
    result_map_both update_by NoRow (row_of type fields) >>= unless_too_long

-- the same of a row's bytes: one that isn't UTF-8 asks for nothing
abbrev pub row_asked : UserSpace → List (List ℕ) → Result Update RowEnd
row_asked seen fields = if are_utf8 fields then row_judged seen fields else Err NotText

-- this is given, or memory was wanting
abbrev pub IsGivenOrStarved : {A : Type 0} → Result A RowEnd → Result A RowEnd → Type 0
IsGivenOrStarved answer result = (result ≡ answer) ⊎ (result ≡ Err (NoRow OutOfMemory))

-- ---- what it comes to

-- the details of a HistoryUpdate that asks for it
abbrev pub details_by : Import → Update → Details
details_by asked update =
    UpdateData (update.node, (perform_number asked.perform, update.value ∷ []))

-- the status of an update of one value: the value's, or that of an update refused as a whole
abbrev pub code_of : HistoryUpdateResult → Status
code_of told = elim told.operation_results [ [] ↦ told.status | code ∷ codes ↦ code ]

-- where memory was wanting, a row is refused for that, and else it goes on
abbrev pub or_starved : Option Status → Content → Fallible (RowEnd × Content)
    → Fallible (RowEnd × Content)
or_starved reason R more =
    elim reason [ Some _ ↦ give (NoRow OutOfMemory, R) | None ↦ more ]

-- a step for memory first
abbrev pub unless_starved : Content → Fallible (RowEnd × Content) → Fallible (RowEnd × Content)
unless_starved R more = and_then memory (λ reason. or_starved reason R more)

-- an update is asked for as a HistoryUpdate of the user would
abbrev pub row_updated : ℕ → UserSpace → Import → Update → Content → Fallible (RowEnd × Content)
row_updated own seen asked update R =
    unless_starved R
    (and_then (update_item own seen asked.user.now asked.reading (details_by asked update) R)
    (λ told. give (Answered (code_of told.0), told.1)))

-- what the fields of a row come to over what is held, and what they leave
abbrev pub text_done : ℕ → UserSpace → Import → List (List ℕ) → Content
    → Fallible (RowEnd × Content)
text_done own seen asked fields R =
    unless_starved R (elim (row_judged seen fields) [
      | Err end ↦ give (end, R)
      | Ok update ↦ row_updated own seen asked update R
    ])

-- what a row comes to: one that isn't UTF-8 changes nothing
abbrev pub row_done : ℕ → UserSpace → Import → List (List ℕ) → Content
    → Fallible (RowEnd × Content)
row_done own seen asked fields R =
    if are_utf8 fields then text_done own seen asked fields R else give (NotText, R)
