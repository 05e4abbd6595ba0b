-- Rows that are no record's: a column is of another kind, or outside its limits.
use Rattle.std.proofs.Common.{rules, ◌≡◌, ◌⊎◌, inl, inr, ℕ, zero, suc, ◌+◌, ◌<◌, ◌≤◌, ℤ, pos, List, [], ◌∷◌, ◌++◌, length, take, get_or, add-one, append-nil, Err, Ok, refl, sym, ap, subst, ◌∙◌, arith, IsUtf8}
use Rattle.std.specs.List.{flat_map}
use Rattle.std.proofs.Math.Seq.{take-suc}
use Rattle.std.proofs.lemmas.Grind.{flat_map-append}
use Rattle.std.proofs.lemmas.Str.{IsUtf8-from_is_utf8}
use Rattle.std.proofs.Common.{ap₂, ◌==◌, cond, Bool, false, IsTrue, ◌↔◌, Result, IfErr}
use Rattle.std.specs.Prelude.{if◌then◌else◌}
use Rattle.sqlite_value.specs.declared.value.Value.TheVariants.{Int, Blob}
use Rattle.sqlite_value.specs.Order.{Row, column}
use Rattle.stamp.specs.Limits.{IsReplica}
use Rattle.ua_binary.specs.Format.{Reading}
use Rattle.ua_binary.specs.Binary.{node_id, node_of, IsNodeId, IsShortNode}
use Rattle.ua_binary.specs.declared.values.NodeIdRef.{NodeIdRef}
use Rattle.ua_binary.specs.declared.values.NodeId.{NodeId}
use Rattle.ua_binary.specs.declared.fault.BinaryFault.{BinaryFault}
use Rattle.ua_binary.proofs.Lawful.{node_id_lawful}
use Rattle.ua_binary.proofs.Counted.{node_id_only, read_only}
use Rattle.ua_variant.specs.DataValue.{data_value, IsDataValue}
use Rattle.ua_variant.specs.declared.data.DataValue.{DataValue}
use Rattle.ua_variant.specs.declared.fault.VariantFault.{VariantFault}
use Rattle.ua_variant.specs.declared.fault.VariantFault.TheVariants as variant
use Rattle.ua_variant.proofs.Masks.{data_value_lawful}
use Rattle.ua_variant.specs.UpdateType.{update_number}
use Rattle.ua_variant.specs.declared.update_type.HistoryUpdateType.{HistoryUpdateType}
use Rattle.ua_variant.specs.declared.update_type.HistoryUpdateType.TheVariants.{Insert, Replace, Update, Delete}
use Rattle.records.specs.Lists.{Has}
use Rattle.records.specs.Moments.{moment, ticks_of, pico_of, whole_again, pico_within}
use Rattle.records.specs.Fault.{value_fault}
use Rattle.records.specs.Spelling.{IsRecord}
use Rattle.records.specs.declared.record.Record.{Record}
use Rattle.records.specs.declared.fault.RecordFault.{RecordFault}
use Rattle.records.specs.declared.fault.RecordFault.TheVariants.{Binary, BadField, NotCanonical, OutOfMemory}
use Rattle.sql_tables.specs.Words.{shown_of}
use Rattle.sql_tables.specs.Rows.{row_of, records_in, IsNoRecords, HasNoRecords}
use Rattle.sql_tables.proofs.RowLemmas.{record_again}

pub no_origin : (row : Row) → ((n : ℕ) → n < 256 → column row 0 ≡ Int (pos n) → ⊥) → IsNoRecords row
no_origin row none r h is = none r.origin (omega (arith, h.0.origin.1)) (ap (λ x. column x 0) is)

pub no_replica : (row : Row) (n : ℕ) → column row 0 ≡ Int (pos n) → (IsReplica n → ⊥)
    → IsNoRecords row
no_replica row n is none r h same =
    let one : r.origin ≡ n = let at = sym (ap (λ x. column x 0) same) ∙ is in cc in
    none (subst IsReplica one h.0.origin)

pub no_number : (row : Row) → ((n : ℕ) → column row 1 ≡ Int (pos n) → ⊥) → IsNoRecords row
no_number row none r h is = none r.number (ap (λ x. column x 1) is)

pub no_tick : (row : Row) → ((n : ℤ) → column row 2 ≡ Int n → ⊥) → IsNoRecords row
no_tick row none r h is = none r.tick (ap (λ x. column x 2) is)

never : (so : Bool) → so ≡ false → IsTrue so → ⊥
never so off holds = absurd (search rules)

-- a fault of a row that is no record's
pub unread_err : {A : Type 0} (r : Result A RecordFault) (row : Row) → IsNoRecords row
    → IfErr r (λ e. (e ≡ OutOfMemory) ⊎ IsNoRecords row)
unread_err (Ok a) row none = tt
unread_err (Err e) row none = inr none

same_read : {E A : Type 0} (x y : A × List ℕ) → ◌≡◌ {A = Reading E A} (Ok x) (Ok y) → x.0 ≡ y.0
same_read x y e = cc

fits_node : (v : NodeId) → IsNodeId v → node_id.Fits v
unfolding node_id
fits_node v h = h

-- the written bytes of a node are read as it
node_again : (v : NodeId) → IsNodeId v → node_id.read (node_id.canon v) ≡ Ok (v, [])
node_again v h = ap node_id.read (sym (append-nil (node_id.canon v)))
    ∙ node_id_lawful.only (node_id.canon v) v [] (node_id_lawful.written v (fits_node v h))

pub no_node : (row : Row) → ((b : List ℕ) → column row 3 ≡ Blob b → ⊥) → IsNoRecords row
no_node row none r h is = none _ (ap (λ x. column x 3) is)

-- bytes that begin with no node aren't a record's
pub no_node_by : (row : Row) (b : List ℕ) (e : BinaryFault) → column row 3 ≡ Blob b
    → node_id.read b ≡ Err e → IsNoRecords row
no_node_by row b e is fails r h same =
    let bytes : node_id.canon r.node ≡ b = let at = sym (ap (λ x. column x 3) same) ∙ is in cc in
    let both : ◌≡◌ {A = Reading BinaryFault NodeId} (Ok (r.node, [])) (Err e) =
    sym (node_again r.node h.0.node) ∙ ap node_id.read bytes ∙ fails in absurd (search rules)

-- bytes that a node has, and that aren't the written ones, aren't a record's
pub no_other_node : (row : Row) (b rest : List ℕ) (v : NodeId) → column row 3 ≡ Blob b
    → node_id.read b ≡ Ok (v, rest) → (b ≡ node_id.canon v → ⊥) → IsNoRecords row
no_other_node row b rest v is reads other r h same =
    let bytes : node_id.canon r.node ≡ b = let at = sym (ap (λ x. column x 3) same) ∙ is in cc in
    let both : ◌≡◌ {A = Reading BinaryFault NodeId} (Ok (r.node, [])) (Ok (v, rest)) =
    sym (node_again r.node h.0.node) ∙ ap node_id.read bytes ∙ reads in
    let one : r.node ≡ v = same_read (r.node, []) (v, rest) both in
    other (sym bytes ∙ ap node_id.canon one)

-- the same, as reading and writing tell it
pub no_node_read : (row : Row) (b old : List ℕ) (e : BinaryFault) → column row 3 ≡ Blob b → old ≡ b
    → node_id.read old ≡ Err e → IsNoRecords row
no_node_read row b old e is same fails =
    no_node_by row b e is (subst (λ x. node_id.read x ≡ Err e) same fails)

pub no_node_written : (row : Row) (b old rest : List ℕ) (lent : NodeIdRef) (v : NodeId) (so : Bool)
    → column row 3 ≡ Blob b → old ≡ b → node_id.read old ≡ Ok (node_of lent, rest)
    → v ≡ node_of lent → (IsTrue so ↔ (b ≡ node_id.canon v)) → so ≡ false → IsNoRecords row
no_node_written row b old rest lent v so is same reads owned both off =
    no_other_node row b rest (node_of lent) is
    (subst (λ x. node_id.read x ≡ Ok (node_of lent, rest)) same reads)
    (λ e. never so off (both.1 (e ∙ ap node_id.canon (sym owned))))

-- a node that was read is short enough to be written
pub short_node : (b rest : List ℕ) (v : NodeId) → node_id.read b ≡ Ok (v, rest) → IsShortNode v
short_node b rest v reads = read_only node_id_lawful node_id_only b v rest reads

pub no_time : (row : Row) → ((n : ℤ) → column row 4 ≡ Int n → ⊥) → IsNoRecords row
no_time row none r h is = none _ (ap (λ x. column x 4) is)

pub no_pico : (row : Row) → ((n : ℕ) → n < 65536 → column row 5 ≡ Int (pos n) → ⊥) → IsNoRecords row
no_pico row none r h is = none (pico_of r.time) (omega (arith, pico_within r.time))
    (ap (λ x. column x 5) is)

pub no_moment : (row : Row) (n : ℕ) → column row 5 ≡ Int (pos n) → 9999 < n → IsNoRecords row
no_moment row n is far r h same =
    let one : pico_of r.time ≡ n = let at = sym (ap (λ x. column x 5) same) ∙ is in cc in
    absurd (omega (arith, pico_within r.time, one, far))

few_updates : (asked : HistoryUpdateType) → update_number asked < 256
few_updates Insert = omega arith
few_updates Replace = omega arith
few_updates Update = omega arith
few_updates Delete = omega arith

pub no_asked : (row : Row) → ((n : ℕ) → n < 256 → column row 6 ≡ Int (pos n) → ⊥) → IsNoRecords row
no_asked row none r h is = none (update_number r.asked) (few_updates r.asked)
    (ap (λ x. column x 6) is)

pub no_update : (row : Row) (n : ℕ) → column row 6 ≡ Int (pos n)
    → ((a : HistoryUpdateType) → update_number a ≡ n → ⊥) → IsNoRecords row
no_update row n is none r h same =
    let one : update_number r.asked ≡ n = let at = sym (ap (λ x. column x 6) same) ∙ is in cc in
    none r.asked one

-- no update has a number but 1 to 4
pub no_number_of : (n : ℕ) → (n ≡ 1 → ⊥) → (n ≡ 2 → ⊥) → (n ≡ 3 → ⊥) → (n ≡ 4 → ⊥)
    → (a : HistoryUpdateType) → update_number a ≡ n → ⊥
no_number_of n one two three four Insert is = one (sym is)
no_number_of n one two three four Replace is = two (sym is)
no_number_of n one two three four Update is = three (sym is)
no_number_of n one two three four Delete is = four (sym is)

pub no_user : (row : Row) → ((b : List ℕ) → IsUtf8 b → length b ≤ 256 → column row 7 ≡ Blob b → ⊥)
    → IsNoRecords row
no_user row none r h is = none r.user (IsUtf8-from_is_utf8 r.user h.0.user.1) h.0.user.0
    (ap (λ x. column x 7) is)

pub no_value : (row : Row) → ((b : List ℕ) → column row 8 ≡ Blob b → ⊥) → IsNoRecords row
no_value row none r h is = none _ (ap (λ x. column x 8) is)

fits_value : (v : DataValue) → IsDataValue v → data_value.Fits v
unfolding data_value
fits_value v h = h

-- the written bytes of a value are read as it
value_again : (v : DataValue) → IsDataValue v → data_value.read (data_value.canon v) ≡ Ok (v, [])
value_again v h = ap data_value.read (sym (append-nil (data_value.canon v)))
    ∙ data_value_lawful.only (data_value.canon v) v []
    (data_value_lawful.written v (fits_value v h))

-- bytes that begin with no value aren't a record's
no_value_read : (row : Row) (b : List ℕ) (e : VariantFault) → column row 8 ≡ Blob b
    → data_value.read b ≡ Err e → IsNoRecords row
no_value_read row b e is fails r h same =
    let bytes : data_value.canon r.value ≡ b = let at = sym (ap (λ x. column x 8) same) ∙ is in
    cc in
    let both : ◌≡◌ {A = Reading VariantFault DataValue} (Ok (r.value, [])) (Err e) =
    sym (value_again r.value h.0.value) ∙ ap data_value.read bytes ∙ fails in absurd (search rules)

pub no_value_by : (row : Row) (b : List ℕ) (e : VariantFault) → column row 8 ≡ Blob b
    → ((e ≡ variant.OutOfMemory → ⊥) → data_value.read b ≡ Err e)
    → (value_fault e ≡ OutOfMemory) ⊎ IsNoRecords row
no_value_by row b variant.OutOfMemory is fails = inl refl
no_value_by row b e is fails = inr (no_value_read row b e is (fails (λ same. search rules)))

-- bytes that a value has, and that aren't the written ones, aren't a record's
pub no_other_value : (row : Row) (b rest : List ℕ) (v : DataValue) → column row 8 ≡ Blob b
    → data_value.read b ≡ Ok (v, rest) → (b ≡ data_value.canon v → ⊥) → IsNoRecords row
no_other_value row b rest v is reads other r h same =
    let bytes : data_value.canon r.value ≡ b = let at = sym (ap (λ x. column x 8) same) ∙ is in
    cc in
    let both : ◌≡◌ {A = Reading VariantFault DataValue} (Ok (r.value, [])) (Ok (v, rest)) =
    sym (value_again r.value h.0.value) ∙ ap data_value.read bytes ∙ reads in
    let one : r.value ≡ v = same_read (r.value, []) (v, rest) both in
    other (sym bytes ∙ ap data_value.canon one)

pub no_value_written : (row : Row) (b old rest : List ℕ) (v : DataValue) (so : Bool)
    → column row 8 ≡ Blob b → old ≡ b → data_value.read old ≡ Ok (v, rest)
    → (IsTrue so ↔ (b ≡ data_value.canon v)) → so ≡ false → IsNoRecords row
no_value_written row b old rest v so is same reads both off =
    no_other_value row b rest v is (subst (λ x. data_value.read x ≡ Ok (v, rest)) same reads)
    (λ e. never so off (both.1 e))

-- ---- a record by its columns

pub row_is : (row : Row) (r : Record)
    → (column row 0 ≡ Int (pos r.origin)) × (column row 1 ≡ Int (pos r.number))
    × (column row 2 ≡ Int r.tick)
    → column row 3 ≡ Blob (node_id.canon r.node)
    → (column row 4 ≡ Int (ticks_of r.time)) × (column row 5 ≡ Int (pos (pico_of r.time)))
    → column row 6 ≡ Int (pos (update_number r.asked)) → column row 7 ≡ Blob r.user
    → column row 8 ≡ Blob (data_value.canon r.value) → shown_of row ≡ row_of r
row_is row r name node place asked user value =
    rw (name.0, name.1, name.2, node, place.0, place.1, asked, user, value) refl

-- the row of a record spells it
pub read_by : (row : Row) (r : Record) → shown_of row ≡ row_of r → IsRecord r
    → records_in row ≡ r ∷ []
read_by row r is h = ap records_in is ∙ record_again r h

abbrev update_of : ℕ → HistoryUpdateType
update_of n = if n == 1 then Insert else if n == 2 then Replace else if n == 3 then Update
    else Delete

update_again : (a : HistoryUpdateType) → update_of (update_number a) ≡ a
update_again Insert = refl
update_again Replace = refl
update_again Update = refl
update_again Delete = refl

-- a record is its fields
whole_record : (r s : Record) → r.origin ≡ s.origin → r.number ≡ s.number → r.tick ≡ s.tick
    → r.node ≡ s.node → r.time ≡ s.time → r.asked ≡ s.asked → r.user ≡ s.user
    → r.value ≡ s.value → r ≡ s
whole_record r s origin number tick node time asked user value =
    ap₂ (λ o n. record r { origin = o; number = n }) origin number
    ∙ ap₂ (λ t v. record r { origin = s.origin; number = s.number; tick = t; node = v }) tick node
    ∙ ap₂ (λ t a. record s { time = t; asked = a; user = r.user; value = r.value }) time asked
    ∙ ap₂ (λ u v. record s { user = u; value = v }) user value

same_nodes : (v w : NodeId) → IsNodeId v → IsNodeId w → node_id.canon v ≡ node_id.canon w → v ≡ w
same_nodes v w one other is =
    let both : ◌≡◌ {A = Reading BinaryFault NodeId} (Ok (v, [])) (Ok (w, [])) =
    sym (node_again v one) ∙ ap node_id.read is ∙ node_again w other in
    same_read (v, []) (w, []) both

same_values : (v w : DataValue) → IsDataValue v → IsDataValue w
    → data_value.canon v ≡ data_value.canon w → v ≡ w
same_values v w one other is =
    let both : ◌≡◌ {A = Reading VariantFault DataValue} (Ok (v, [])) (Ok (w, [])) =
    sym (value_again v one) ∙ ap data_value.read is ∙ value_again w other in
    same_read (v, []) (w, []) both

-- what has a record's row, and parts that are spelled, is that record
same_row : (r s : Record) → IsNodeId r.node → IsDataValue r.value → IsRecord s
    → row_of r ≡ row_of s → r ≡ s
same_row r s node value h is =
    let e0 : r.origin ≡ s.origin = let at = ap (λ x. column x 0) is in cc in
    let e1 : r.number ≡ s.number = let at = ap (λ x. column x 1) is in cc in
    let e2 : r.tick ≡ s.tick = let at = ap (λ x. column x 2) is in cc in
    let nodes : node_id.canon r.node ≡ node_id.canon s.node =
    let at = ap (λ x. column x 3) is in cc in
    let ticks : ticks_of r.time ≡ ticks_of s.time = let at = ap (λ x. column x 4) is in cc in
    let picos : pico_of r.time ≡ pico_of s.time = let at = ap (λ x. column x 5) is in cc in
    let numbers : update_number r.asked ≡ update_number s.asked =
    let at = ap (λ x. column x 6) is in cc in
    let e6 : r.user ≡ s.user = let at = ap (λ x. column x 7) is in cc in
    let values : data_value.canon r.value ≡ data_value.canon s.value =
    let at = ap (λ x. column x 8) is in cc in
    let e3 : r.node ≡ s.node = same_nodes r.node s.node node h.0.node nodes in
    let e4 : r.time ≡ s.time =
    sym (whole_again r.time) ∙ ap₂ moment ticks picos ∙ whole_again s.time in
    let e5 : r.asked ≡ s.asked =
    sym (update_again r.asked) ∙ ap update_of numbers ∙ update_again s.asked in
    let e7 : r.value ≡ s.value = same_values r.value s.value value h.0.value values in
    whole_record r s e0 e1 e2 e3 e4 e5 e6 e7

-- what has the row, and isn't a record, shows that no record has it
pub no_other : (row : Row) (r : Record) → shown_of row ≡ row_of r → IsNodeId r.node
    → IsDataValue r.value → (IsRecord r → ⊥) → IsNoRecords row
no_other row r is node value none s h same =
    none (subst IsRecord (sym (same_row r s node value h (sym is ∙ same))) h)

pub unspelled : (row : Row) (r : Record) (so : Bool) → shown_of row ≡ row_of r → IsNodeId r.node
    → IsDataValue r.value → (IsTrue so ↔ IsRecord r) → so ≡ false → IsNoRecords row
unspelled row r so is node value both off =
    no_other row r is node value (λ h. never so off (both.1 h))

-- ---- all rows

pub has_at : {X : Type 0} (xs : List X) (i : ℕ) (d : X) → i < length xs → Has xs (get_or xs i d)
has_at [] i d h = absurd (omega arith)
has_at (x ∷ xs) zero d h = inl refl
has_at (x ∷ xs) (suc i) d h = inr (has_at xs i d (omega (arith, h)))

-- one of some rows isn't read
pub has_unread : (rows : List Row) (i : ℕ) (row : Row) (e : RecordFault) → i < length rows
    → row ≡ get_or rows i row → (e ≡ OutOfMemory) ⊎ IsNoRecords row
    → (e ≡ OutOfMemory) ⊎ HasNoRecords rows
has_unread rows i row e within is (inl memory) = inl memory
has_unread rows i row e within is (inr none) = inr (row, rw is (has_at rows i row within), none)

-- a row more is read
pub read_more : (rows : List Row) (i : ℕ) (row : Row) (r : Record) (all new : List Record)
    → i < length rows → row ≡ get_or rows i row → all ≡ flat_map records_in (take i rows)
    → records_in row ≡ r ∷ []
    → new ≡ all ++ r ∷ [] → new ≡ flat_map records_in (take (i + 1) rows)
read_more rows i row r all new within is was one e =
    e ∙ ap (λ xs. xs ++ r ∷ []) was
    ∙ sym (subst (λ k. flat_map records_in (take k rows)
    ≡ flat_map records_in (take i rows) ++ r ∷ []) (sym (add-one i)) step)
  where
    step : flat_map records_in (take (suc i) rows) ≡ flat_map records_in (take i rows) ++ r ∷ []
    step =
        ap (flat_map records_in) (take-suc rows i row within)
        ∙ flat_map-append records_in (take i rows) (get_or rows i row ∷ [])
        ∙ ap (λ xs. flat_map records_in (take i rows) ++ xs)
        (append-nil (records_in (get_or rows i row)) ∙ ap records_in (sym is) ∙ one)
