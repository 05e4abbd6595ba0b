-- One record of a replica, sent alone.
use Rattle.std.proofs.Common.{◌≡◌, ℕ, ◌-◌, ◌<◌, ◌≤◌, ◌==◌, length, Bool, List, [], ◌∷◌, take, refl, sym, ap, ◌∙◌, subst, inl, inr, arith}
use Rattle.std.specs.Prelude.{if◌then◌else◌}
use Rattle.std.proofs.lemmas.Bool.{cases_eq, eq-eqb, ne_eqb}
use Rattle.records.specs.Lists.{Has}
use Rattle.records.specs.Records.{missing}
use Rattle.records.specs.Contents.{Content, vec, put, merged, finding, Adds, IsClosed}
use Rattle.records.specs.declared.record.Record.{Record}
use Rattle.records.proofs.ContentLemmas.{apart_from_rises, vec_bounds}
use Rattle.records.proofs.LackLemmas.{missing_count, missing_within, missing_before, missing_some}
use Rattle.records.proofs.MissingLemmas.{name_less}
use Rattle.records.proofs.LearnLemmas.{learned_next, next_found}
use Rattle.std.specs.Option.{option_map_or}

-- it lacks this record of T, and no other origin's
abbrev pub all_but : Content → Record → ℕ → ℕ
all_but T r origin = if origin == r.origin then r.number - 1 else vec T origin

lacks : (T : Content) (r : Record) → all_but T r r.origin ≡ r.number - 1
lacks T r = ap (λ (b : Bool). if b then r.number - 1 else vec T r.origin)
    (eq-eqb r.origin r.origin refl)

-- what it lacks begins with the record
pub missing_one : (T : Content) (r : Record) → IsClosed T → Has T r
    → missing T (all_but T r) 1 ≡ r ∷ []
missing_one T r closed h = go (missing T (all_but T r) 1) refl
  where
    one : 1 ≤ r.number
    one = closed.numbers r h

    beyond : all_but T r r.origin < r.number
    beyond = omega (arith, lacks T r, one)

    first : (z : Record) → Has T z → all_but T r z.origin < z.number
        → (z.origin ≡ r.origin) × (r.number ≤ z.number)
    first z there more = elim (cases_eq z.origin r.origin) [
      | inl e ↦
          let is : all_but T r z.origin ≡ r.number - 1 =
          ap (λ (b : Bool). if b then r.number - 1 else vec T z.origin)
          (eq-eqb z.origin r.origin e) in
          (e, omega (arith, is, more, one))
      | inr other ↦
          let is : all_but T r z.origin ≡ vec T z.origin =
          ap (λ (b : Bool). if b then r.number - 1 else vec T z.origin)
          (ne_eqb z.origin r.origin other) in
          absurd (omega (arith, is, more, vec_bounds T z there))
    ]

    go : (zs : List Record) → missing T (all_but T r) 1 ≡ zs → zs ≡ r ∷ []
    go [] e = absurd (omega (
      arith,
      ap length e,
      missing_some T (all_but T r) 1 r (omega arith) h beyond,
    ))
    go (z ∷ y ∷ zs) e = absurd (omega (arith, ap length e, missing_count T (all_but T r) 1))
    go (z ∷ []) e =
        let in_it : Has (missing T (all_but T r) 1) z = subst (λ l. Has l z) (sym e) (inl refl) in
        let is = missing_within T (all_but T r) 1 z in_it in
        let at = first z is.0 is.1 in
        elim (missing_before T (all_but T r) 1 z r
        (apart_from_rises T closed.ordered) in_it h beyond) [
          | inl there ↦ elim (subst (λ l. Has l r) e there)
              [ inl same ↦ ap (λ x. x ∷ []) same | inr none ↦ absurd none ]
          | inr less ↦ let lt = name_less z r less at.0 in absurd (omega (arith, lt, at.1))
        ]

-- and learning it alone adds it where it may be added
pub merged_one : (S T : Content) (r : Record) → IsClosed T → Has T r → finding S r ≡ Adds
    → merged (take 1 (missing T (all_but T r) 1)) S ≡ put r S
merged_one S T r closed h adds = ap (λ l. merged (take 1 l) S) (missing_one T r closed h)
    ∙ ap (λ o. option_map_or (merged []) o S) (learned_next S r (next_found S r adds))
