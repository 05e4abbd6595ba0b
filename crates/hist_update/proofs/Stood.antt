-- What the code of an operation that was done tells of what stood there.
use Rattle.std.proofs.Common.{◌≡◌, ℕ, Bool, true, false, None, refl, sym, ap, arith, ◌∙◌, subst}
use Rattle.std.proofs.lemmas.Option.{none-some}
use Rattle.records.specs.declared.record.Record.{Record}
use Rattle.ua_variant.specs.declared.update_type.HistoryUpdateType.{HistoryUpdateType}
use Rattle.ua_variant.specs.declared.update_type.HistoryUpdateType.TheVariants.{Insert, Replace, Update, Delete}
use Rattle.records.specs.Records.{is_delete}
use Rattle.records.specs.Contents.{Content}
use Rattle.ua_binary.specs.declared.codes.Status.{Status}
use Rattle.ua_binary.specs.declared.codes.TheConstants.Status.{GOOD, GOOD_ENTRY_INSERTED, GOOD_ENTRY_REPLACED}
use Rattle.hist_update.specs.declared.request.Request.{Request}
use Rattle.hist_update.specs.Outcome.{Operation, Added, outcome, conflict, done, is_live}
use Rattle.hist_update.proofs.NewRecords.{made}

-- what was asked for, and what stood there: nothing spoke against it, and it has this code
pub record Stood (R : Content) (code : Status) (r : Record) : Type 0 where
  pub free : conflict r.asked (is_live R r.node r.time) ≡ None
  pub told : code ≡ done r.asked (is_live R r.node r.time)

stood : (R : Content) (own : ℕ) (request : Request) (op : Operation) (code : Status) (r : Record)
    → outcome R own request op ≡ Added code r → Stood R code r
stood R own request op code r e =
    let m = made R own request op code r e in
    subst (λ (z : Record). Stood R code z) (sym m.is) (record { free = m.free; told = m.told })

-- codes that are one have one number
number_of : {a b : Status} → a ≡ b → a.0 ≡ b.0
number_of e = ap (λ (c : Status). c.0) e

inserted : (asked : HistoryUpdateType) (live : Bool) → conflict asked live ≡ None
    → GOOD_ENTRY_INSERTED ≡ done asked live → (live ≡ false) × (is_delete asked ≡ false)
inserted Insert true e h = absurd (none-some _ (sym e))
inserted Insert false e h = (refl, refl)
inserted Replace true e h = absurd (omega (arith, number_of h))
inserted Replace false e h = absurd (none-some _ (sym e))
inserted Update true e h = absurd (omega (arith, number_of h))
inserted Update false e h = (refl, refl)
inserted Delete true e h = absurd (omega (arith, number_of h))
inserted Delete false e h = absurd (omega (arith, number_of h))

replaced : (asked : HistoryUpdateType) (live : Bool) → conflict asked live ≡ None
    → GOOD_ENTRY_REPLACED ≡ done asked live → (live ≡ true) × (is_delete asked ≡ false)
replaced Insert true e h = absurd (none-some _ (sym e))
replaced Insert false e h = absurd (omega (arith, number_of h))
replaced Replace true e h = (refl, refl)
replaced Replace false e h = absurd (none-some _ (sym e))
replaced Update true e h = (refl, refl)
replaced Update false e h = absurd (omega (arith, number_of h))
replaced Delete true e h = absurd (omega (arith, number_of h))
replaced Delete false e h = absurd (omega (arith, number_of h))

deleted : (asked : HistoryUpdateType) (live : Bool) → conflict asked live ≡ None
    → GOOD ≡ done asked live → (live ≡ true) × (is_delete asked ≡ true)
deleted Insert true e h = absurd (omega (arith, number_of h))
deleted Insert false e h = absurd (omega (arith, number_of h))
deleted Replace true e h = absurd (omega (arith, number_of h))
deleted Replace false e h = absurd (omega (arith, number_of h))
deleted Update true e h = absurd (omega (arith, number_of h))
deleted Update false e h = absurd (omega (arith, number_of h))
deleted Delete true e h = (refl, refl)
deleted Delete false e h = absurd (none-some _ (sym e))

onto_none : (live : Bool) → conflict Insert live ≡ None → live ≡ false
onto_none true e = absurd (none-some _ (sym e))
onto_none false e = refl

onto_one : (live : Bool) → conflict Replace live ≡ None → live ≡ true
onto_one true e = refl
onto_one false e = absurd (none-some _ (sym e))

pub stood_inserted : (R : Content) (own : ℕ) (request : Request) (op : Operation) (r : Record)
    → outcome R own request op ≡ Added GOOD_ENTRY_INSERTED r
    → (is_live R r.node r.time ≡ false) × (is_delete r.asked ≡ false)
stood_inserted R own request op r e = let s = stood R own request op GOOD_ENTRY_INSERTED r e in
    inserted r.asked (is_live R r.node r.time) s.free s.told

pub stood_replaced : (R : Content) (own : ℕ) (request : Request) (op : Operation) (r : Record)
    → outcome R own request op ≡ Added GOOD_ENTRY_REPLACED r
    → (is_live R r.node r.time ≡ true) × (is_delete r.asked ≡ false)
stood_replaced R own request op r e = let s = stood R own request op GOOD_ENTRY_REPLACED r e in
    replaced r.asked (is_live R r.node r.time) s.free s.told

pub stood_deleted : (R : Content) (own : ℕ) (request : Request) (op : Operation) (r : Record)
    → outcome R own request op ≡ Added GOOD r
    → (is_live R r.node r.time ≡ true) × (is_delete r.asked ≡ true)
stood_deleted R own request op r e = let s = stood R own request op GOOD r e in
    deleted r.asked (is_live R r.node r.time) s.free s.told

pub stood_insert : (R : Content) (own : ℕ) (request : Request) (op : Operation) (code : Status)
    (r : Record) → outcome R own request op ≡ Added code r → r.asked ≡ Insert
    → is_live R r.node r.time ≡ false
stood_insert R own request op code r e asked =
    let s = stood R own request op code r e in
    onto_none (is_live R r.node r.time) (ap (λ a. conflict a (is_live R r.node r.time)) (sym asked)
    ∙ s.free)

pub stood_replacement : (R : Content) (own : ℕ) (request : Request) (op : Operation) (code : Status)
    (r : Record) → outcome R own request op ≡ Added code r → r.asked ≡ Replace
    → is_live R r.node r.time ≡ true
stood_replacement R own request op code r e asked =
    let s = stood R own request op code r e in
    onto_one (is_live R r.node r.time) (ap (λ a. conflict a (is_live R r.node r.time)) (sym asked)
    ∙ s.free)
