-- What a row asks for, part by part, and what is done of it.
use Rattle.std.proofs.Common.{◌≡◌, ◌∙◌, inl, inr, ℕ, ℤ, to_z, of_z, true, false, List, [], ◌∷◌, length, Some, None, Ok, Err, refl, sym, ap, subst, arith}
use Rattle.std.specs.Prelude.{◌⊎◌, ◌&&◌, Bool, Option, Result, ok_or, if◌then◌else◌, IsUtf8}
use Rattle.std.specs.Int.{w32}
use Rattle.std.specs.Result.{result_map_both}
use Rattle.std.specs.Str.{is_utf8}
use Rattle.std.proofs.lemmas.Str.{IsUtf8-from_is_utf8, is_utf8-from_IsUtf8}
use Rattle.csv.specs.Records.{AllText, field_at}
use Rattle.ua_binary.specs.Format.{◌>>=◌}
use Rattle.ua_binary.specs.declared.codes.Status.{Status}
use Rattle.ua_binary.specs.declared.values.NodeId.{NodeId}
use Rattle.ua_variant.specs.declared.value.ValueType.{ValueType}
use Rattle.ua_services.specs.Updates.{Details}
use Rattle.ua_services.specs.declared.updates.HistoryUpdateResult.{HistoryUpdateResult}
use Rattle.records.specs.Contents.{Content}
use Rattle.archive.specs.Store.{Store, StepResult}
use Rattle.archive.specs.Steps.{Fallible, give, and_then, Refines}
use Rattle.history_csv.specs.Nodes.{node_in}
use Rattle.history_csv.specs.Rows.{Answers, row_of}
use Rattle.history_csv.specs.declared.fields.Row.{Row}
use Rattle.history_csv.specs.declared.fault.RowFault.{RowFault}
use Rattle.history_csv.specs.declared.fault.RowFault.TheVariants.{Fields, Node, OutOfMemory}
use Rattle.historian.specs.UserSpaces.{UserSpace}
use Rattle.historian.specs.Updating.{type_granted, update_item}
use Rattle.historian.proofs.Items.{acts-none, acts-same, acts-made}
use Rattle.history_import.specs.declared.asked.Import.{Import}
use Rattle.history_import.specs.declared.asked.Perform.{Perform}
use Rattle.history_import.specs.declared.asked.Perform.TheVariants.{Insert, Replace, Update as Overwrite}
use Rattle.history_import.specs.declared.update.Update.{Update}
use Rattle.history_import.specs.declared.row_end.RowEnd.{RowEnd}
use Rattle.history_import.specs.declared.row_end.RowEnd.TheVariants.{NotText, NoRow, Answered}
use Rattle.history_import.specs.Rows.{IsGivenOrStarved, node_field, row_type, row_judged, update_by, unless_too_long, perform_number, details_by, code_of, are_utf8, row_asked, row_updated, text_done, row_done}
use Rattle.history_import.proofs.DoingLemmas.{row-starved, row-fed}

-- ---- its type

-- the first of four fields
pub first-of-four : (fields : List (List ℕ)) → length fields ≡ 4
    → field_at fields 0 ≡ node_field fields
unfolding field_at
first-of-four [] four = absurd (omega (arith, four))
first-of-four (a ∷ []) four = absurd (omega (arith, four))
first-of-four (a ∷ b ∷ []) four = absurd (omega (arith, four))
first-of-four (a ∷ b ∷ c ∷ []) four = absurd (omega (arith, four))
first-of-four (a ∷ b ∷ c ∷ d ∷ []) four = refl
first-of-four (a ∷ b ∷ c ∷ d ∷ more ∷ rest) four = absurd (omega (arith, four))

-- the type of the variable of this node
abbrev type_at : UserSpace → Option NodeId → Result ValueType RowEnd
type_at seen node =
    ok_or node (NoRow Node) >>= λ id.
    result_map_both (λ type. type) Answered (type_granted seen (Some id))

-- the same, of the node that a field says
abbrev type_by : UserSpace → Option (List ℕ) → Result ValueType RowEnd
type_by seen field = ok_or field (NoRow Fields) >>= λ text. type_at seen (node_in text)

-- there is no first field
pub type-without : (seen : UserSpace) (fields : List (List ℕ)) → node_field fields ≡ None
    → IsGivenOrStarved (row_type seen fields) (Err (NoRow Fields))
type-without seen fields none = inl (sym (ap (type_by seen) none))

-- it isn't read as a node
pub type-nodeless : (seen : UserSpace) (fields : List (List ℕ)) (text : List ℕ) (why : RowFault)
    → node_field fields ≡ Some text → Answers (ok_or (node_in text) Node) (Err why)
    → IsGivenOrStarved (row_type seen fields) (Err (NoRow why))
type-nodeless seen fields text why is (inl memory) = inr (cc)
type-nodeless seen fields text why is (inr wrong) =
    inl (sym (ap (type_by seen) is ∙ by (node_in text) wrong))
  where
    by : (o : Option NodeId) → ok_or o Node ≡ Err why → type_at seen o ≡ Err (NoRow why)
    by None e = cc
    by (Some id) e = absurd cc

-- it is a node: the type is what the user is granted of it
pub type-given : (seen : UserSpace) (fields : List (List ℕ)) (text : List ℕ) (id : NodeId)
    (granted : Result ValueType Status) → node_field fields ≡ Some text
    → Answers (ok_or (node_in text) Node) (Ok id) → granted ≡ type_granted seen (Some id)
    → result_map_both (λ type. type) Answered granted ≡ row_type seen fields
type-given seen fields text id granted is read told =
    ap (result_map_both (λ type. type) Answered) told
    ∙ sym (ap (type_by seen) is ∙ ap (type_at seen) (by (node_in text) read))
  where
    by : (o : Option NodeId) → ok_or o Node ≡ Ok id → o ≡ Some id
    by None e = absurd cc
    by (Some x) e = cc

-- ---- what it asks for

-- what fields ask for, by the variable's type
abbrev judged_by : List (List ℕ) → Result ValueType RowEnd → Result Update RowEnd
judged_by fields type =
    type >>= λ type. result_map_both update_by NoRow (row_of type fields) >>= unless_too_long

-- its variable has no type
pub judged-untyped : (seen : UserSpace) (fields : List (List ℕ)) (end : RowEnd)
    → IsGivenOrStarved (row_type seen fields) (Err end)
    → IsGivenOrStarved (row_judged seen fields) (Err end)
judged-untyped seen fields end (inl is) = inl (ap (judged_by fields) is)
judged-untyped seen fields end (inr starved) = inr (cc)

-- the type that was given is the variable's
typed : (seen : UserSpace) (fields : List (List ℕ)) (type : ValueType)
    → IsGivenOrStarved (row_type seen fields) (Ok type) → row_type seen fields ≡ Ok type
typed seen fields type (inl is) = sym is
typed seen fields type (inr starved) = absurd cc

-- they say no row
pub judged-faulty : (seen : UserSpace) (fields : List (List ℕ)) (type : ValueType) (why : RowFault)
    → IsGivenOrStarved (row_type seen fields) (Ok type)
    → Answers (row_of type fields) (Err why)
    → IsGivenOrStarved (row_judged seen fields) (Err (NoRow why))
judged-faulty seen fields type why is (inl memory) = inr (cc)
judged-faulty seen fields type why is (inr wrong) =
    inl (sym (ap (judged_by fields) (typed seen fields type is)
    ∙ ap (λ r. result_map_both update_by NoRow r >>= unless_too_long) wrong))

-- they say this row
pub judged-read : (seen : UserSpace) (fields : List (List ℕ)) (type : ValueType) (row : Row)
    (update : Update) (result : Result Update RowEnd)
    → IsGivenOrStarved (row_type seen fields) (Ok type)
    → Answers (row_of type fields) (Ok row) → update ≡ update_by row
    → result ≡ unless_too_long update → IsGivenOrStarved (row_judged seen fields) result
judged-read seen fields type row update result is read made told =
    inl (told ∙ ap unless_too_long made
    ∙ sym (ap (judged_by fields) (typed seen fields type is)
    ∙ ap (λ r. result_map_both update_by NoRow r >>= unless_too_long) read))

-- ---- what is done of it

-- the number of an update is an i32
pub perform-again : (perform : Perform) (n : ℤ) → n ≡ perform_number perform
    → to_z w32 (of_z w32 n) ≡ perform_number perform
perform-again Insert n is = ap (λ m. to_z w32 (of_z w32 m)) is
perform-again Replace n is = ap (λ m. to_z w32 (of_z w32 m)) is
perform-again Overwrite n is = ap (λ m. to_z w32 (of_z w32 m)) is

-- memory for the list of its value is wanting
pub updated-starved : (s : Store) (own : ℕ) (seen : UserSpace) (asked : Import) (update : Update)
    → (used : List StepResult)
    × Refines s s used (row_updated own seen asked update) (NoRow OutOfMemory)
updated-starved s own seen asked update =
    row-starved s (λ R.
    and_then (update_item own seen asked.user.now asked.reading (details_by asked update) R)
    (λ told. give (Answered (code_of told.0), told.1)))

-- it was asked for as these details
pub updated-told : (a b : Store) (own : ℕ) (seen : UserSpace) (asked : Import) (update : Update)
    (details : Details) (told : HistoryUpdateResult) → details_by asked update ≡ details
    → ((used : List StepResult)
    × Refines a b used (update_item own seen asked.user.now asked.reading details) told)
    → (used : List StepResult)
    × Refines a b used (row_updated own seen asked update) (Answered (code_of told))
updated-told a b own seen asked update details told is acts =
    let f : Details → Content → Fallible (RowEnd × Content) = λ d R.
    and_then (update_item own seen asked.user.now asked.reading d R)
    (λ told. give (Answered (code_of told.0), told.1)) in
    row-fed a b (f (details_by asked update)) (Answered (code_of told))
    (acts-made a b (update_item own seen asked.user.now asked.reading details)
    (f (details_by asked update)) (λ r. Answered (code_of r)) told (Answered (code_of told)) acts
    (λ R marks. ap (λ d. f d R marks) is) refl)

-- by what the fields ask for
abbrev text_by : ℕ → UserSpace → Import → Result Update RowEnd → Content
    → Fallible (RowEnd × Content)
text_by own seen asked judged R =
    elim judged [ Err end ↦ give (end, R) | Ok update ↦ row_updated own seen asked update R ]

-- they ask for this
pub text-asks : (a b : Store) (own : ℕ) (seen : UserSpace) (asked : Import)
    (fields : List (List ℕ)) (update : Update) (end : RowEnd)
    → IsGivenOrStarved (row_judged seen fields) (Ok update)
    → ((used : List StepResult) × Refines a b used (row_updated own seen asked update) end)
    → (used : List StepResult) × Refines a b used (text_done own seen asked fields) end
text-asks a b own seen asked fields update end (inl is) acts =
    row-fed a b (text_by own seen asked (row_judged seen fields)) end
    (acts-same a b (row_updated own seen asked update)
    (text_by own seen asked (row_judged seen fields)) end
    (λ R marks. ap (λ j. text_by own seen asked j R marks) is) acts)
text-asks a b own seen asked fields update end (inr starved) acts = absurd cc

-- they ask for nothing
pub text-ends : (s : Store) (own : ℕ) (seen : UserSpace) (asked : Import)
    (fields : List (List ℕ)) (end : RowEnd)
    → IsGivenOrStarved (row_judged seen fields) (Err end)
    → (used : List StepResult) × Refines s s used (text_done own seen asked fields) end
text-ends s own seen asked fields end (inl is) =
    row-fed s s (text_by own seen asked (row_judged seen fields)) end
    (acts-none s (text_by own seen asked (row_judged seen fields)) end
    (λ R marks. ap (λ j. text_by own seen asked j R marks) (sym is)))
text-ends s own seen asked fields end (inr starved) =
    let same : end ≡ NoRow OutOfMemory = cc in
    let P : RowEnd → Type 0 = λ e. (used : List StepResult)
    × Refines s s used (text_done own seen asked fields) e in
    subst P (sym same) (row-starved s (text_by own seen asked (row_judged seen fields)))

-- ---- UTF-8

all_utf8 : (fields : List (List ℕ)) → AllText fields → are_utf8 fields ≡ true
unfolding AllText
all_utf8 [] all = refl
all_utf8 (field ∷ fields) all =
    ap (λ b. b && are_utf8 fields) (is_utf8-from_IsUtf8 field all.0) ∙ all_utf8 fields all.1

all_text : (fields : List (List ℕ)) → are_utf8 fields ≡ true → AllText fields
unfolding AllText
all_text [] are = tt
all_text (field ∷ fields) are = by (is_utf8 field) refl are (λ rest. all_text fields rest)
  where
    by : (b : Bool) → is_utf8 field ≡ b → (b && are_utf8 fields) ≡ true
        → (are_utf8 fields ≡ true → AllText fields) → IsUtf8 field × AllText fields
    by true one rest later = (IsUtf8-from_is_utf8 field one, later rest)
    by false one rest later = absurd cc

no_utf8 : (fields : List (List ℕ)) → (AllText fields → ⊥) → are_utf8 fields ≡ false
no_utf8 fields none = by (are_utf8 fields) refl
  where
    by : (b : Bool) → are_utf8 fields ≡ b → are_utf8 fields ≡ false
    by true are = absurd (none (all_text fields are))
    by false are = are

-- by whether they are UTF-8, and what they ask for then
abbrev asked_by : UserSpace → List (List ℕ) → Bool → Result Update RowEnd
asked_by seen fields text = if text then row_judged seen fields else Err NotText

-- what a row of texts asks for
pub asked-text : (seen : UserSpace) (fields texts : List (List ℕ)) (result : Result Update RowEnd)
    → texts ≡ fields → AllText texts → IsGivenOrStarved (row_judged seen texts) result
    → IsGivenOrStarved (row_asked seen fields) result
asked-text seen fields texts result same all judged =
    subst (λ l. IsGivenOrStarved (row_asked seen l) result) same
    (subst (λ asked. IsGivenOrStarved asked result)
    (sym (ap (asked_by seen texts) (all_utf8 texts all))) judged)

-- a row that isn't UTF-8 asks for nothing
pub asked-bytes : (seen : UserSpace) (fields : List (List ℕ)) → (AllText fields → ⊥)
    → IsGivenOrStarved (row_asked seen fields) (Err NotText)
asked-bytes seen fields none =
    inl (sym (ap (asked_by seen fields) (no_utf8 fields none)))

-- by whether they are UTF-8
abbrev done_by : ℕ → UserSpace → Import → List (List ℕ) → Bool → Content
    → Fallible (RowEnd × Content)
done_by own seen asked fields text R =
    if text then text_done own seen asked fields R else give (NotText, R)

-- a row of texts
pub done-text : (a b : Store) (own : ℕ) (seen : UserSpace) (asked : Import)
    (fields texts : List (List ℕ)) (end : RowEnd) → texts ≡ fields → AllText texts
    → ((used : List StepResult) × Refines a b used (text_done own seen asked texts) end)
    → (used : List StepResult) × Refines a b used (row_done own seen asked fields) end
done-text a b own seen asked fields texts end same all acts =
    let P : List (List ℕ) → Type 0 = λ l.
    (used : List StepResult) × Refines a b used (row_done own seen asked l) end in
    subst P same (acts-same a b (text_done own seen asked texts) (row_done own seen asked texts) end
    (λ R marks. ap (λ t. done_by own seen asked texts t R marks) (sym (all_utf8 texts all))) acts)

-- a row that isn't UTF-8
pub done-bytes : (s : Store) (own : ℕ) (seen : UserSpace) (asked : Import)
    (fields : List (List ℕ)) → (AllText fields → ⊥)
    → (used : List StepResult) × Refines s s used (row_done own seen asked fields) NotText
done-bytes s own seen asked fields none =
    acts-none s (row_done own seen asked fields) NotText
    (λ R marks. ap (λ t. done_by own seen asked fields t R marks) (no_utf8 fields none))
