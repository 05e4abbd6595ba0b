-- What some updates make of a content, as operations that were asked for: each lawful record of
-- them is what a lawful operation adds.
use Rattle.std.proofs.Common.{◌≡◌, ℕ, ◌+◌, ◌==◌, ℤ, pos, ◌+ℤ◌, ◌≤ℤ◌, ◌<ℤ◌, int_lt, Bool, true, false, not, ◌||◌, Option, Some, None, is_some, Ok, Err, refl, sym, ap, ◌∙◌, arith}
use Rattle.std.specs.Prelude.{if◌then◌else◌}
use Rattle.std.specs.Option.{ok_or}
use Rattle.std.specs.Int.{int_max, int_min}
use Rattle.std.proofs.lemmas.Bool.{true≢false, le-ltb}
use Rattle.std.proofs.lemmas.Int.{ints, clamps}
use Rattle.std.proofs.lemmas.Bool.Decides.{nat_tests}
use Rattle.stamp.specs.Limits.{greatest, lift}
use Rattle.ua_binary.specs.Format.{◌>>=◌}
use Rattle.ua_binary.specs.declared.codes.Status.{Status}
use Rattle.ua_binary.specs.declared.codes.TheConstants.Status.{BAD_ENCODING_LIMITS_EXCEEDED, BAD_INVALID_TIMESTAMP, BAD_TYPE_MISMATCH}
use Rattle.ua_binary.specs.declared.values.Ticks.{Ticks}
use Rattle.ua_variant.specs.declared.data.DataValue.{DataValue}
use Rattle.ua_variant.specs.declared.value.Variant.{Variant}
use Rattle.ua_variant.specs.declared.value.Variant.TheVariants.{Null, Scalar, Array}
use Rattle.ua_variant.specs.declared.value.ValueType.{ValueType}
use Rattle.ua_variant.specs.declared.update_type.HistoryUpdateType.{HistoryUpdateType}
use Rattle.ua_variant.specs.declared.update_type.HistoryUpdateType.TheVariants.{Insert, Replace, Update, Delete}
use Rattle.ua_variant.specs.Scalar.{scalar_number}
use Rattle.ua_variant.specs.Values.{array_number}
use Rattle.records.specs.declared.record.Record.{Record}
use Rattle.records.specs.Moments.{moment, ticks_of, whole_again}
use Rattle.records.specs.Records.{is_delete}
use Rattle.records.specs.Contents.{Content, vec, top}
use Rattle.records.specs.Spelling.{IsLawfulRecord, empty}
use Rattle.records.proofs.Sizes.{fields_length}
use Rattle.records.proofs.LearnLemmas.{next_found, not_lt_test}
use Rattle.archive.specs.Growth.{is_possible, IsUpdateOf}
use Rattle.hist_update.specs.declared.request.Request.{Request}
use Rattle.hist_update.specs.Outcome.{Operation, Write, DeleteAt, Change, Added, IsRequest, source_pico, source_time, fits_type, writing, change_by, checked_size, conflict, done, is_live, outcome, record_by, checked_change}
use Rattle.hist_update.proofs.OutcomeParts.{deletion, stamped, is_too_long, outcome_of}
use Rattle.hist_update.specs.Laws.{IsSpelledRequest, IsOperation}

-- the operation that adds a record where R is held, as its conditions ask
pub record IsAddedBy (own : ℕ) (R : Content) (r : Record) : Type 0 where
  pub request : Request
  pub operation : Operation
  pub code : Status
  pub adds : outcome R own request operation ≡ Added code r
  pub lawful : IsRequest request
  pub spelled : IsSpelledRequest request
  pub suits : IsOperation operation

-- ---- the change

-- a type that a value has
abbrev type_of : Option Variant → ValueType
type_of (Some (Scalar s)) = record { number = scalar_number s; array = false }
type_of (Some (Array a)) = record { number = array_number a; array = true }
type_of other = record { number = 1; array = false }

eq_self : (n : ℕ) → (n == n) ≡ true
eq_self n = grind (arith, nat_tests)

type_fits : (o : Option Variant) → fits_type (type_of o) o ≡ true
type_fits None = refl
type_fits (Some Null) = refl
type_fits (Some (Scalar s)) = eq_self (scalar_number s)
type_fits (Some (Array a)) = eq_self (array_number a)

-- no field that a delete's value lacks
bare : (v : DataValue) → not (is_some v.value || is_some v.status || is_some v.source_time
    || is_some v.source_pico || is_some v.server_time || is_some v.server_pico) ≡ true → v ≡ empty
bare v e = go v.value v.status v.source_time v.source_pico v.server_time v.server_pico e
  where
    go : (a : Option Variant) (b : Option Status) (c : Option Ticks) (d : Option ℕ)
        (f : Option Ticks) (g : Option ℕ)
        → not (is_some a || is_some b || is_some c || is_some d || is_some f || is_some g) ≡ true
        → ◌≡◌ {A = DataValue} (record {
          value = a;
          status = b;
          source_time = c;
          source_pico = d;
          server_time = f;
          server_pico =
              g;
        }) empty
    go None None None None None None h = refl
    go (Some a) b c d f g h = absurd (true≢false (sym h))
    go None (Some b) c d f g h = absurd (true≢false (sym h))
    go None None (Some c) d f g h = absurd (true≢false (sym h))
    go None None None (Some d) f g h = absurd (true≢false (sym h))
    go None None None None (Some f) g h = absurd (true≢false (sym h))
    go None None None None None (Some g) h = absurd (true≢false (sym h))

none_there : {A : Type 0} (o : Option A) → not (is_some o) ≡ true → o ≡ None
none_there None e = refl
none_there (Some a) e = absurd (true≢false (sym e))

-- what is possible has nothing against it
free : (asked : HistoryUpdateType) (live : Bool) → is_possible asked live ≡ true
    → conflict asked live ≡ None
free Insert false e = refl
free Insert true e = absurd (true≢false (sym e))
free Replace true e = refl
free Replace false e = absurd (true≢false (sym e))
free Update live e = refl
free Delete true e = refl
free Delete false e = absurd (true≢false (sym e))

lifts : (most tick : ℤ) → most <ℤ tick → tick ≤ℤ pos greatest → lift tick most ≡ Some tick
lifts most tick above within =
    let test : int_lt most (pos greatest) ≡ true = grind (arith, ints, above, within) in
    let same : int_max (most +ℤ pos 1) (int_min tick (pos greatest)) ≡ tick =
    grind (arith, ints, clamps, above, within) in
    ap (λ x. if x then Some (int_max (most +ℤ pos 1) (int_min tick (pos greatest))) else None) test
    ∙ ap Some same

-- ---- the operation

module _ (own : ℕ) (R : Content) (r : Record) (u : IsUpdateOf own R r) (l : IsLawfulRecord r) where
  abbrev asker : Request
  asker = record { node = r.node; user = r.user; reading = r.tick }

  abbrev change : Change
  change = record { time = r.time; asked = r.asked; value = r.value }

  short : is_too_long asker own change ≡ false
  short = le-ltb _ _ (omega
      (arith, l.size, fields_length r, fields_length (record_by asker own 1 (pos 1) change)))

  tick_lifts : lift r.tick (top R) ≡ Some r.tick
  tick_lifts = lifts (top R) r.tick u.above (next_found R r u.next).within

  is_free : conflict r.asked (is_live R r.node r.time) ≡ None
  is_free = free r.asked (is_live R r.node r.time) u.possible

  same_record : record_by asker own (vec R own + 1) r.tick change ≡ r
  same_record =
      let named : vec R own + 1 ≡ r.number =
      sym ((next_found R r u.next).number ∙ ap (λ o. vec R o + 1) u.origin) in
      ap (λ n. record_by asker own n r.tick change) named
      ∙ ap (λ o. record_by asker o r.number r.tick change) (sym u.origin)

  by_change : (op : Operation) → change_by asker own op ≡ Ok change
      → outcome R own asker op ≡ Added (done r.asked (is_live R r.node r.time)) r
  by_change op e =
      ap (outcome_of R own asker) e
      ∙ (ap (checked_change R own asker change (is_live R r.node r.time)) is_free
      ∙ (ap (stamped R own asker change (done r.asked (is_live R r.node r.time))) tick_lifts
      ∙ ap (Added (done r.asked (is_live R r.node r.time))) same_record))

  is_request : IsRequest asker
  is_request = record { node = u.node; user = l.user.0 }

  is_spelled : IsSpelledRequest asker
  is_spelled = record { node = l.node; user = l.user.1 }

  -- the value as it was written, with its source time
  abbrev whole : DataValue
  whole = record r.value { source_time = Some (record { 0 = ticks_of r.time }) }

  written : is_delete r.asked ≡ false
      → change_by asker own (Write r.asked (type_of r.value.value) whole) ≡ Ok change
  written w =
      let timeless : r.value.source_time ≡ None =
      none_there r.value.source_time (sym
      (ap (λ d. if d then not (is_some r.value.value || is_some r.value.status
      || is_some r.value.source_time || is_some r.value.source_pico
      || is_some r.value.server_time || is_some r.value.server_pico) else not
      (is_some r.value.source_time)) w) ∙ l.suits) in
      let late : int_lt (ticks_of r.time) (pos 1) ≡ false = not_lt_test _ _ l.time.0 in
      let at : source_time whole ≡ Some r.time =
      ap (λ x. if x then None else Some (moment (ticks_of r.time) (source_pico r.value))) late
      ∙ ap Some (ap (moment (ticks_of r.time)) (sym (u.moment w)) ∙ whole_again r.time) in
      let back : writing r.asked whole r.time ≡ change =
      ap (λ t. let c : Change = record {
        time = r.time;
        asked = r.asked;
        value =
            record r.value { source_time = t };
      } in c) (sym timeless) in
      ap (λ o. ok_or o BAD_INVALID_TIMESTAMP >>= (λ time.
      if fits_type (type_of r.value.value) r.value.value then Ok time else Err
      BAD_TYPE_MISMATCH) >>= (λ time. checked_size asker own (writing r.asked whole time))) at
      ∙ (ap (λ x. (if x then Ok r.time else Err BAD_TYPE_MISMATCH) >>=
      (λ time. checked_size asker own (writing r.asked whole time))) (type_fits r.value.value)
      ∙ (ap (checked_size asker own) back
      ∙ ap (λ x. if x then Err BAD_ENCODING_LIMITS_EXCEEDED else Ok change) short))

  deleted : is_delete r.asked ≡ true → change_by asker own (DeleteAt r.time) ≡ Ok change
  deleted d =
      let nothing : r.value ≡ empty =
      bare r.value (sym (ap
      (λ x. if x then not (is_some r.value.value || is_some r.value.status
      || is_some r.value.source_time || is_some r.value.source_pico
      || is_some r.value.server_time || is_some r.value.server_pico) else not
      (is_some r.value.source_time)) d) ∙ l.suits) in
      let late : int_lt (ticks_of r.time) (pos 1) ≡ false = not_lt_test _ _ l.time.0 in
      ap (λ x. if x then Err BAD_INVALID_TIMESTAMP else Ok (deletion r.time)) late
      ∙ ap Ok (ap (λ v. let c : Change = record { time = r.time; asked = Delete; value = v } in c)
      (sym nothing) ∙ ap (λ a. let c : Change =
      record { time = r.time; asked = a; value = r.value } in c) (sym (asked_delete r.asked d)))
    where
      asked_delete : (a : HistoryUpdateType) → is_delete a ≡ true → a ≡ Delete
      asked_delete Delete e = refl
      asked_delete Insert e = absurd (true≢false (sym e))
      asked_delete Replace e = absurd (true≢false (sym e))
      asked_delete Update e = absurd (true≢false (sym e))

  pub added_by : IsAddedBy own R r
  added_by = go (is_delete r.asked) refl
    where
      go : (x : Bool) → is_delete r.asked ≡ x → IsAddedBy own R r
      go true d = record {
        request = asker;
        operation = DeleteAt r.time;
        code = done r.asked (is_live R r.node r.time);
        adds = by_change (DeleteAt r.time) (deleted d);
        lawful = is_request;
        spelled = is_spelled;
        suits = l.time.1;
      }
      go false w = record {
        request = asker;
        operation = Write r.asked (type_of r.value.value) whole;
        code = done r.asked (is_live R r.node r.time);
        adds = by_change (Write r.asked (type_of r.value.value) whole) (written w);
        lawful = is_request;
        spelled = is_spelled;
        suits = (w, (l.value.0, l.value.1, l.time.1, l.value.3, l.value.4, l.value.5));
      }
