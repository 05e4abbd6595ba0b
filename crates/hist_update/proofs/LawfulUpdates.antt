-- A content of lawful records has no others behind some operations.
use Rattle.std.proofs.Common.{◌≡◌, ℕ, ◌+◌, ◌≤◌, ℤ, pos, ◌≤ℤ◌, Bool, true, false, List, [], ◌∷◌, ◌++◌, Option, Some, None, IfSome, Result, Ok, Err, refl, sym, subst, arith}
use Rattle.std.specs.Prelude.{if◌then◌else◌, int_lt}
use Rattle.std.specs.Int.{w64}
use Rattle.std.specs.Int.RustNames.{FitsSigned}
use Rattle.std.specs.List.{AllByRecursion}
use Rattle.std.specs.Option.{option_and_then}
use Rattle.std.proofs.lemmas.Bool.{ltb-false}
use Rattle.std.proofs.lemmas.Option.{none-some, same_Some}
use Rattle.stamp.specs.Limits.{IsReplica}
use Rattle.ua_binary.specs.declared.values.Ticks.{Ticks}
use Rattle.ua_variant.specs.DataValue.{IsDataValue}
use Rattle.records.specs.Moments.{moment, ticks_of, ticks_again}
use Rattle.records.specs.declared.record.Record.{Record}
use Rattle.records.specs.Contents.{Content, vec}
use Rattle.records.specs.Spelling.{IsLawfulRecord, is_value_for}
use Rattle.records.proofs.Sizes.{fields_length}
use Rattle.records.proofs.LearnLemmas.{le_from_not, finding_next}
use Rattle.archive.specs.Store.{IsLawfulContent}
use Rattle.archive.proofs.Listing.{lawful_put}
use Rattle.std.specs.Option.{ok_or}
use Rattle.ua_binary.specs.Format.{◌>>=◌}
use Rattle.ua_binary.specs.declared.codes.Status.{Status}
use Rattle.ua_binary.specs.declared.codes.TheConstants.Status.{BAD_ENCODING_LIMITS_EXCEEDED, BAD_INVALID_TIMESTAMP, BAD_TYPE_MISMATCH}
use Rattle.hist_update.specs.declared.request.Request.{Request}
use Rattle.hist_update.specs.Outcome.{Operation, Write, DeleteAt, Change, Outcome, Refused, Added, IsRequest, change_by, checked_size, fits_type, source_time, source_pico, writing, outcome, content_after, record_by}
use Rattle.hist_update.proofs.OutcomeParts.{deletion, is_too_long}
use Rattle.archive.specs.Steps.{Yields}
use Rattle.archive.specs.Store.{StepResult, Done, NoMemory, RecordStands, StoreFailed}
use Rattle.hist_update.specs.Updates.{left_by, update_all}
use Rattle.hist_update.specs.Laws.{IsSpelledRequest, IsOperation}
use Rattle.hist_update.proofs.Deletions.{deletion_short}
use Rattle.hist_update.proofs.Operating.{is_new, few_by}
use Rattle.hist_update.proofs.NewRecords.{made, new_next}
use Rattle.hist_update.proofs.Answered.{came_to, did}

record IsChange (request : Request) (own : ℕ) (change : Change) : Type 0 where
  pub time : pos 1 ≤ℤ ticks_of change.time
  pub fits : FitsSigned w64 (ticks_of change.time)
  pub value : IsDataValue change.value
  pub suits : is_value_for change.asked change.value ≡ true
  pub short : is_too_long request own change ≡ false

same_change : (a b : Change) → ◌≡◌ {A = Result Change Status} (Ok a) (Ok b) → a ≡ b
same_change a b e = cc

no_change : {X : Type 0} (code : Status) (a : Change)
    → ◌≡◌ {A = Result Change Status} (Err code) (Ok a) → X
no_change code a e = absurd (cc)

abbrev IsTime : ℤ → Type 0
IsTime t = (pos 1 ≤ℤ ticks_of t) × FitsSigned w64 (ticks_of t)

sourced : (o : Option Ticks) (p : ℕ) (t : ℤ) → p ≤ 9999 → IfSome o (λ s. FitsSigned w64 s.0)
    → option_and_then (λ (s : Ticks). if int_lt s.0 (pos 1) then None else Some (moment s.0 p)) o
    ≡ Some t → IsTime t
sourced None p t few fits e = absurd (none-some _ e)
sourced (Some s) p t few fits e = go (int_lt s.0 (pos 1)) refl e
  where
    go : (x : Bool) → int_lt s.0 (pos 1) ≡ x → (if x then None else Some (moment s.0 p)) ≡ Some t
        → IsTime t
    go true q h = absurd (none-some _ h)
    go false q h =
        let same = ticks_again s.0 p few in
        subst IsTime (same_Some _ _ h) (
          subst (λ u. pos 1 ≤ℤ u) (sym same) (le_from_not _ _ q),
          subst (λ u. FitsSigned w64 u) (sym same) fits,
        )

is_change : (request : Request) (own : ℕ) (op : Operation) (change : Change) → IsRequest request
    → IsSpelledRequest request → IsOperation op → change_by request own op ≡ Ok change
    → IsChange request own change
is_change request own (DeleteAt time) change lawful spelled fits e =
    go (int_lt (ticks_of time) (pos 1)) refl e
  where
    go : (x : Bool) → int_lt (ticks_of time) (pos 1) ≡ x
        → (if x then Err BAD_INVALID_TIMESTAMP else Ok (deletion time)) ≡ Ok change
        → IsChange request own change
    go true p h = no_change _ _ h
    go false p h = subst (IsChange request own) (same_change _ _ h) (record {
      time = le_from_not _ _ p;
      fits = fits;
      value = (tt, tt, tt, tt, tt, tt);
      suits = refl;
      short = deletion_short request own time spelled.node lawful;
    })
is_change request own (Write asked type v) change lawful spelled is e =
    by_time (source_time v) refl e
  where
    by_size : (t : ℤ) → IsTime t → (x : Bool) → is_too_long request own (writing asked v t) ≡ x
        → (if x then Err BAD_ENCODING_LIMITS_EXCEEDED else Ok (writing asked v t)) ≡ Ok change
        → IsChange request own change
    by_size t at true p h = no_change _ _ h
    by_size t at false p h = subst (IsChange request own) (same_change _ _ h) (record {
      time = at.0;
      fits = at.1;
      value = (is.1.0, is.1.1, tt, is.1.3, is.1.4, is.1.5);
      suits = rw is.0 refl;
      short = p;
    })

    by_type : (t : ℤ) → IsTime t → (x : Bool)
        → ((if x then Ok t else Err BAD_TYPE_MISMATCH) >>= λ time.
        checked_size request own (writing asked v time)) ≡ Ok change → IsChange request own change
    by_type t at true h = by_size t at (is_too_long request own (writing asked v t)) refl h
    by_type t at false h = no_change _ _ h

    by_time : (o : Option ℤ) → source_time v ≡ o
        → ((ok_or o BAD_INVALID_TIMESTAMP >>= λ time.
        if fits_type type v.value then Ok time else Err BAD_TYPE_MISMATCH) >>= λ time.
        checked_size request own (writing asked v time)) ≡ Ok change → IsChange request own change
    by_time None p h = no_change _ _ h
    by_time (Some t) p h = by_type t (sourced v.source_time (source_pico v) t
        (few_by v.source_pico is.1.3) is.1.2 p) (fits_type type v.value) h

-- ---- new records are lawful

lawful_new : (R : Content) (own : ℕ) (request : Request) (op : Operation) (code : Status)
    (r : Record) → IsReplica own → IsRequest request → IsSpelledRequest request → IsOperation op
    → IsLawfulContent R
    → outcome R own request op ≡ Added code r → IsLawfulRecord r
lawful_new R own request op code r replica lawful spelled is content e =
    let m = made R own request op code r e in
    let change = is_change request own op m.change lawful spelled is m.asked in
    let new = is_new R own request.reading m.tick content.closed m.lifts in
    let few = ltb-false _ _ change.short in
    let same = fields_length (record_by request own 1 (pos 1) m.change) in
    let long = fields_length (record_by request own (vec R own + 1) m.tick m.change) in
    subst IsLawfulRecord (sym m.is) (record {
      origin = replica;
      number = (omega arith, new.number);
      node = spelled.node;
      time = (change.time, change.fits);
      user = (lawful.user, spelled.user);
      value = change.value;
      suits = change.suits;
      size = omega (arith, few, same, long);
    })

after_lawful : (R : Content) (own : ℕ) (request : Request) (op : Operation) → IsReplica own
    → IsRequest request → IsSpelledRequest request → IsOperation op → IsLawfulContent R
    → (o : Outcome) → outcome R own request op ≡ o → IsLawfulContent (content_after R o)
after_lawful R own request op replica lawful spelled is content (Refused c) e = content
after_lawful R own request op replica lawful spelled is content (Added c r) e =
    lawful_put R r content (lawful_new R own request op c r replica lawful spelled is content e)
    (finding_next R r (new_next R own request op c r content.closed e))

left_lawful : (R : Content) (own : ℕ) (request : Request) (op : Operation) (m : StepResult)
    → IsReplica own → IsRequest request → IsSpelledRequest request → IsOperation op
    → IsLawfulContent R
    → IsLawfulContent (left_by R (outcome R own request op) m)
left_lawful R own request op NoMemory replica lawful spelled is content = content
left_lawful R own request op (StoreFailed f) replica lawful spelled is content = content
left_lawful R own request op Done replica lawful spelled is content =
    after_lawful R own request op replica lawful spelled is content (outcome R own request op) refl
left_lawful R own request op RecordStands replica lawful spelled is content =
    after_lawful R own request op replica lawful spelled is content (outcome R own request op) refl

all_lawful : (own : ℕ) (request : Request) (ops : List Operation) (R : Content)
    (marks : List StepResult) → IsReplica own → IsRequest request → IsSpelledRequest request
    → AllByRecursion IsOperation ops
    → IsLawfulContent R → IsLawfulContent (came_to own request ops R marks).1
all_lawful own request [] R marks replica lawful spelled is content = content
all_lawful own request (op ∷ ops) R [] replica lawful spelled is content =
    all_lawful own request ops (left_by R (outcome R own request op) Done) [] replica lawful spelled
    is.1 (left_lawful R own request op Done replica lawful spelled is.0 content)
all_lawful own request (op ∷ ops) R (m ∷ marks) replica lawful spelled is content =
    all_lawful own request ops (left_by R (outcome R own request op) m) marks replica lawful spelled
    is.1 (left_lawful R own request op m replica lawful spelled is.0 content)

pub updated_lawful : (R S : Content) (own : ℕ) (request : Request) (ops : List Operation)
    (used : List StepResult) (codes : List Status)
    → Yields (update_all own request ops R) used (codes, S)
    → IsReplica own → IsRequest request → IsSpelledRequest request → AllByRecursion IsOperation ops
    → IsLawfulContent R → IsLawfulContent S
updated_lawful R S own request ops used codes d replica lawful spelled is content =
    subst (λ (z : List Status × Content). IsLawfulContent z.1)
    (did (update_all own request ops R) used (codes, S) d)
    (all_lawful own request ops R (used ++ []) replica lawful spelled is content)
