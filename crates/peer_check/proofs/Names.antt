-- The record of a name, as the first that numbers lack; and what comparing by it finds.
use Rattle.std.proofs.Common.{◌≡◌, ℕ, zero, suc, get_or, ◌+◌, ◌-◌, ◌<◌, ◌≤◌, ◌==◌, Bool, List, [], ◌∷◌, ◌++◌, take, drop, length, Option, Some, None, refl, sym, ap, ◌∙◌, subst, arith, inl, inr, if◌then◌else◌, option_to_list}
use Rattle.std.proofs.lemmas.Bool.{cases_eq, eq-eqb, ne_eqb}
use Rattle.std.proofs.lemmas.List.{take_more, length-append}
use Rattle.stamp.specs.Limits.{IsReplica, greatest}
use Rattle.records.specs.Lists.{Has}
use Rattle.records.specs.Records.{missing}
use Rattle.records.specs.Contents.{Content, vec, HasName, AreCompatible}
use Rattle.records.specs.declared.record.Record.{Record}
use Rattle.records.proofs.ContentLemmas.{apart_from_rises, vec_bounds, named_once}
use Rattle.records.proofs.LackLemmas.{missing_count, missing_within, missing_before, missing_some}
use Rattle.records.proofs.MissingLemmas.{name_less}
use Rattle.archive.specs.Store.{IsLawfulContent}
use Rattle.peer_check.specs.declared.comparing.Clash.{Clash}
use Rattle.peer_check.specs.Clashes.{FindsName, FindsClash}

-- the numbers lack an origin's records from this number on, and no other's
abbrev pub LackFrom : (origin number : ℕ) → (numbers : ℕ → ℕ) → Type 0
LackFrom origin number v =
    (replica : ℕ) → IsReplica replica
    → v replica ≡ (if replica == origin then number - 1 else greatest)

module _ (R : Content) (lawful : IsLawfulContent R) (origin number : ℕ) (v : ℕ → ℕ)
    (lacks : LackFrom origin number v) (least : 1 ≤ number) where
  -- what they lack is of the origin, from the number on
  lacked : (x : Record) → Has R x → v x.origin < x.number
      → (x.origin ≡ origin) × (number ≤ x.number)
  lacked x h lt =
      let is = lacks x.origin (lawful.records x h).origin in
      elim (cases_eq x.origin origin) [
        | inl e ↦
            let one = is ∙ ap (λ (b : Bool). if b then number - 1 else greatest)
            (eq-eqb x.origin origin e) in
            (e, omega (arith, one, lt, least))
        | inr ne ↦
            let all = is ∙ ap (λ (b : Bool). if b then number - 1 else greatest)
            (ne_eqb x.origin origin ne) in
            absurd (omega (arith, all, lt, (lawful.records x h).number.1))
      ]

  -- the record of the name is lacked
  beyond : (s : Record) → Has R s → s.origin ≡ origin → s.number ≡ number → v s.origin < s.number
  beyond s h o n =
      let one = lacks s.origin (lawful.records s h).origin
      ∙ ap (λ (b : Bool). if b then number - 1 else greatest) (eq-eqb s.origin origin o) in
      omega (arith, one, n, least)

  -- of a content that has it, it is the first
  first_is : (s z : Record) → Has R s → s.origin ≡ origin → s.number ≡ number
      → missing R v 1 ≡ z ∷ [] → z ≡ s
  first_is s z h o n e =
      let in_it : Has (missing R v 1) z = subst (λ l. Has l z) (sym e) (inl refl) in
      let is = missing_within R v 1 z in_it in
      let at = lacked z is.0 is.1 in
      elim (missing_before R v 1 z s (apart_from_rises R lawful.closed.ordered) in_it h
      (beyond s h o n)) [
        | inl there ↦ elim (subst (λ l. Has l s) e there)
            [ inl same ↦ same | inr none ↦ absurd none ]
        | inr less ↦
            let lt = name_less z s less (at.0 ∙ sym o) in
            absurd (omega (arith, lt, at.1, n))
      ]

  -- what stands alone behind those that stay is what is found
  found_in : (items rest : List Record) (found : Option Record) → items ≡ missing R v 1
      → items ≡ rest ++ option_to_list found → (length rest + length (option_to_list found) ≡ length items)
      → (found ≡ None → length items ≡ 0) → FindsName R origin number found
  found_in items [] (Some z) is parts sum none =
      let alone : missing R v 1 ≡ z ∷ [] = sym is ∙ parts in
      let in_it : Has (missing R v 1) z = subst (λ l. Has l z) (sym alone) (inl refl) in
      let within = missing_within R v 1 z in_it in
      let at = lacked z within.0 within.1 in
      let upto = vec_bounds R z within.0 in
      let some = lawful.closed.whole origin number least
      (omega (arith, at.1, upto, ap (vec R) at.0)) in
      let same = first_is some.0 z some.1 some.2.0 some.2.1 alone in
      (within.0, (at.0, ap (λ (r : Record). r.number) same ∙ some.2.1))
  found_in items (y ∷ rest) (Some z) is parts sum none =
      absurd (omega (arith, sum, ap length is, missing_count R v 1))
  found_in items rest None is parts sum none = λ (has : HasName R origin number).
      let some = missing_some R v 1 has.0 (omega arith) has.1
      (beyond has.0 has.1 has.2.0 has.2.1) in
      absurd (omega (arith, some, ap length is, none refl))

  pub finds_name : (items rest : List Record) (found : Option Record) → items ≡ missing R v 1
      → items ≡ rest ++ option_to_list found
      → (length rest + length (option_to_list found) ≡ length items)
      → (found ≡ None → length items ≡ 0) → FindsName R origin number found
  finds_name = found_in

-- ---- what comparing finds

-- a number that isn't reached is no name's
unheld : (R : Content) (r : Record) → (r.number ≤ vec R r.origin → ⊥)
    → HasName R r.origin r.number → ⊥
unheld R r beyond has =
    let upto = vec_bounds R has.0 has.1 in
    beyond (omega (arith, upto, ap (vec R) has.2.0, has.2.1))

-- a record whose name isn't held
pub agrees_unnamed : (R : Content) (r : Record) → (HasName R r.origin r.number → ⊥)
    → FindsClash R (r ∷ []) None
agrees_unnamed R r none x y h (inl same) o n =
    let back = sym same in
    absurd (none (
      x,
      h,
      (
        o ∙ ap (λ (z : Record). z.origin) back,
        n ∙ ap (λ (z : Record). z.number) back,
      ),
    ))
agrees_unnamed R r none x y h (inr never) o n = absurd never

-- one that is held
pub agrees_held : (R : Content) (r held : Record) → IsLawfulContent R
    → FindsName R r.origin r.number (Some held) → held ≡ r → FindsClash R (r ∷ []) None
agrees_held R r held lawful named equal x y h (inl same) o n =
    let there : Has R r = subst (Has R) equal named.0 in
    named_once R lawful.closed.ordered x y h (subst (Has R) same there) o n
agrees_held R r held lawful named equal x y h (inr never) o n = absurd never

-- one of another
pub clashes : (R : Content) (r held copy : Record)
    → FindsName R r.origin r.number (Some held) → (held ≡ r → ⊥) → copy ≡ r
    → FindsClash R (r ∷ []) (Some (record { held = held; brought = copy }))
clashes R r held copy named differ is = (
  record {
    held = named.0;
    origin = named.1.0 ∙ ap (λ (z : Record). z.origin) (sym is);
    number = named.1.1 ∙ ap (λ (z : Record). z.number) (sym is);
    differ = λ e. differ (e ∙ is);
  },
  ([], [], ap (λ (z : Record). z ∷ []) (sym is), λ x y h never o n. absurd never),
)

-- of one record more
pub compatible_more : (R : Content) (rs : List Record) (r : Record) → AreCompatible R rs
    → AreCompatible R (r ∷ []) → AreCompatible R (rs ++ (r ∷ []))
compatible_more R [] r all one x y h m o n = one x y h m o n
compatible_more R (z ∷ rs) r all one x y h (inl same) o n = all x y h (inl same) o n
compatible_more R (z ∷ rs) r all one x y h (inr later) o n =
    compatible_more R rs r (λ a b i j p q. all a b i (inr j) p q) one x y h later o n

-- of none
pub compatible_none : (R : Content) → AreCompatible R []
compatible_none R x y h never o n = absurd never

-- the next one of some agrees too
pub compatible_next : (R S : Content) (rs : List Record) (i : ℕ) (r d : Record)
    (found : Option Clash) → i < length rs → r ≡ get_or rs i d → AreCompatible R (take i rs)
    → S ≡ R → FindsClash S (r ∷ []) found → found ≡ None → AreCompatible R (take (i + 1) rs)
compatible_next R S rs i r d found within is all same finds none =
    let more : take (i + 1) rs ≡ take i rs ++ (r ∷ []) =
    take_more rs i d within ∙ ap (λ x. take i rs ++ (x ∷ [])) (sym is) in
    let one : FindsClash R (r ∷ []) None =
    subst (FindsClash R (r ∷ [])) none (subst (λ T. FindsClash T (r ∷ []) found) same finds) in
    subst (AreCompatible R) (sym more) (compatible_more R (take i rs) r all one)

-- the same of one whose number isn't reached
pub compatible_beyond : (R : Content) (rs : List Record) (i : ℕ) (r d : Record)
    → i < length rs → r ≡ get_or rs i d → AreCompatible R (take i rs)
    → (r.number ≤ vec R r.origin → ⊥) → AreCompatible R (take (i + 1) rs)
compatible_beyond R rs i r d within is all beyond =
    compatible_next R R rs i r d None within is all refl (agrees_unnamed R r (unheld R r beyond)) refl

-- what stands alone is the one
alone : (before after : List Record) (x r : Record) → (r ∷ []) ≡ before ++ (x ∷ after) → x ≡ r
alone [] after x r is = sym (ap (λ (rs : List Record). get_or rs 0 r) is)
alone (y ∷ before) after x r is =
    let long : 1 ≡ suc (length (before ++ (x ∷ after))) = ap length is in
    absurd (omega (arith, long, length-append before (x ∷ after)))

-- a list in front of a place, what stands there, and what is behind it
split_at : (rs : List Record) (i : ℕ) (d : Record) → i < length rs
    → rs ≡ take i rs ++ (get_or rs i d ∷ drop (suc i) rs)
split_at [] i d within = absurd (omega (arith, within))
split_at (x ∷ rs) zero d within = refl
split_at (x ∷ rs) (suc i) d within = ap (λ (l : List Record). x ∷ l)
    (split_at rs i d (omega (arith, within)))

-- the clash of one, behind such that have none, is that of all
pub clash_among : (R S : Content) (rs : List Record) (i : ℕ) (r d : Record) (clash : Clash)
    → i < length rs → r ≡ get_or rs i d → AreCompatible R (take i rs) → S ≡ R
    → FindsClash S (r ∷ []) (Some clash) → FindsClash R rs (Some clash)
clash_among R S rs i r d clash within is all same finds =
    let here : FindsClash R (r ∷ []) (Some clash) =
    subst (λ T. FindsClash T (r ∷ []) (Some clash)) same finds in
    let (before, after, parts, none) = here.1 in
    let brought : clash.brought ≡ get_or rs i d = alone before after clash.brought r parts ∙ is in (
      here.0,
      (
        take i rs,
        drop (suc i) rs,
        split_at rs i d within
            ∙ ap (λ (z : Record). take i rs ++ (z ∷ drop (suc i) rs)) (sym brought),
        all,
      ),
    )
