-- A dump: what is behind the first records of a content, and the batches one after the other.
use Rattle.std.proofs.Common.{◌≡◌, ◌⊎◌, ℕ, zero, suc, ◌+◌, ◌≤◌, ◌<◌, max, cond, List, [], ◌∷◌, ◌++◌, take, drop, get_or, length, filter, flat_map, append-nil, append_assoc, Option, None, Some, Ok, Err, refl, sym, ap, ◌∙◌, subst, arith, inl, inr, Less}
use Rattle.std.specs.Prelude.{◌==◌, true}
use Rattle.std.specs.List.{AllByRecursion}
use Rattle.std.specs.Io.KnownBytes.{Appends}
use Rattle.std.proofs.KnownBytes.{Appends-nil, Appends-trans}
use Rattle.std.proofs.Math.Seq.{take-add}
use Rattle.std.proofs.lemmas.Bool.{lt-ltb, ltb-true, eq-eqb, eqb-true, ne_eqb, cases_eq}
use Rattle.std.proofs.lemmas.Bool.Decides.{nat_tests}
use Rattle.std.proofs.lemmas.List.{take-append-drop, take_more, nil_from_length}
use Rattle.std.proofs.lemmas.Grind.{flat_map-append}
use Rattle.stamp.specs.Numbers.{number_of}
use Rattle.records.specs.declared.record.Record.{Record}
use Rattle.records.specs.Lists.{Has, Rises}
use Rattle.records.specs.Records.{name_cmp, is_beyond, missing}
use Rattle.records.specs.Contents.{Content, vec}
use Rattle.records.proofs.ContentsParts.{number_from}
use Rattle.records.specs.Spelling.{IsRecord}
use Rattle.records.proofs.Sorting.{all-has, all_from_has, has-filter, has_from_filter, pairwise-filter, same_members}
use Rattle.records.proofs.Orders.{name_total}
use Rattle.records.proofs.ContentLemmas.{vec_bounds, vec_attained, has-append, has_from_append}
use Rattle.records.proofs.MissingLemmas.{missing_is}
use Rattle.records.proofs.LackLemmas.{missing_within}
use Rattle.archive.specs.declared.fault.StoreFault.{StoreFault}
use Rattle.archive.specs.declared.fault.StoreFault.TheVariants.{Refused}
use Rattle.archive.specs.Store.{Store, StepResult, StoreFailed, Asks, IsLawfulContent}
use Rattle.archive.specs.Steps.{Transitions}
use Rattle.archive.proofs.ListLemmas.{vec_more}
use Rattle.archive.proofs.Calls.{in_use}
use Rattle.archive.proofs.Acting.{there-behind, moves-none, moves-stays, moves-then, moves-as, left-before}
use Rattle.ua_server.specs.declared.dumps.DumpFault.{DumpFault}
use Rattle.ua_server.specs.declared.dumps.DumpFault.TheVariants as dump
use Rattle.counted_io.specs.Bytes.{AppendsPart}
use Rattle.counted_io.proofs.Parts.{part-first, part-second}
use Rattle.ua_server.specs.Dumping.{lines_of, Dumps, IsSoFar, Dumping, line_of}
use Rattle.ua_server.proofs.DumpingParts.{IsDumped}

vec-append : (xs ys : List Record) (o : ℕ) → vec (xs ++ ys) o ≡ max (vec xs o) (vec ys o)
vec-append [] ys o = omega arith
vec-append (x ∷ xs) ys o = let more = vec-append xs ys o in omega arith

behind : (xs ys : List Record) → Rises name_cmp (xs ++ ys) → Rises name_cmp ys
behind [] ys up = up
behind (x ∷ xs) ys up = behind xs ys up.1

across : (xs ys : List Record) (x y : Record) → Rises name_cmp (xs ++ ys) → Has xs x → Has ys y
    → name_cmp x y ≡ Less
across [] ys x y up h k = absurd h
across (z ∷ zs) ys x y up h k = elim h [
  | inl e ↦ subst (λ w. name_cmp w y
      ≡ Less) e (all-has (λ w. name_cmp z w ≡ Less) (zs ++ ys) y up.0 (has-append zs ys y (inr k)))
  | inr l ↦ across zs ys x y up.1 l k
]

less-number : (x z : Record) → name_cmp x z ≡ Less → x.origin ≡ z.origin → x.number < z.number
less-number x z e o = grind (arith, nat_tests)

-- a record behind these is beyond their numbers
beyond-front : (xs ys : List Record) (y : Record) → Rises name_cmp (xs ++ ys) → 1 ≤ y.number
    → Has ys y → vec xs y.origin < y.number
beyond-front xs ys y up one h = elim (vec_attained xs y.origin) [
  | inl e ↦ omega arith
  | inr k ↦ let lt = less-number k.0 y (across xs ys k.0 y up k.1 h) k.2.0 in omega (arith, k.2.1)
]

rest_is : (xs ys : List Record) (v : ℕ → ℕ) → Rises name_cmp (xs ++ ys)
    → ((r : Record) → Has (xs ++ ys) r → 1 ≤ r.number) → ((o : ℕ) → v o ≡ vec xs o)
    → filter (is_beyond v) (xs ++ ys) ≡ ys
rest_is xs ys v up numbers is =
    same_members name_cmp name_total _ _ (pairwise-filter _ (is_beyond v) (xs ++ ys) up)
    (behind xs ys up)
    (λ z h.
    let k = has_from_filter (is_beyond v) (xs ++ ys) z h in
    elim (has_from_append xs ys z k.0) [
      | inl l ↦ let far = ltb-true _ _ k.1 in
          absurd (omega (arith, is z.origin, vec_bounds xs z l, far))
      | inr r ↦ r
    ])
    (λ z h.
    let there = has-append xs ys z (inr h) in
    has-filter (is_beyond v) (xs ++ ys) z there (lt-ltb _ _
    (omega (arith, is z.origin, beyond-front xs ys z up (numbers z there) h))))

-- of a content in order: what is beyond the numbers of its first n records is all behind them
pub missing_behind : (R : Content) (n k : ℕ) (v : ℕ → ℕ) → Rises name_cmp R
    → ((r : Record) → Has R r → 1 ≤ r.number) → ((o : ℕ) → v o ≡ vec (take n R) o)
    → missing R v k ≡ take k (drop n R)
missing_behind R n k v up numbers is =
    let same = take-append-drop n R in
    missing_is R v k up
    ∙ ap (λ l. take k (filter (is_beyond v) l)) (sym same)
    ∙ ap (take k) (rest_is (take n R) (drop n R) v (subst (Rises name_cmp) (sym same) up)
    (λ r h. numbers r (subst (λ l. Has l r) same h)) is)

-- ---- the lines of some records

pub lines_more : (front text new : List ℕ) (xs : List Record) (i : ℕ) (d : Record) → i < length xs
    → text ≡ front ++ flat_map line_of (take i xs) → new ≡ text ++ line_of (get_or xs i d)
    → new ≡ front ++ flat_map line_of (take (i + 1) xs)
lines_more front text new xs i d lt is appended =
    let line = line_of (get_or xs i d) in
    appended
    ∙ ap (λ t. t ++ line) is
    ∙ append_assoc front (flat_map line_of (take i xs)) line
    ∙ ap (λ t. front ++ t) (sym
    (ap (flat_map line_of) (take_more xs i d lt)
    ∙ flat_map-append line_of (take i xs) (get_or xs i d ∷ [])
    ∙ ap (λ t. flat_map line_of (take i xs) ++ t) (append-nil line)))

pub known_more : (old mid new : List ℕ) (xs : List Record) (i : ℕ) (d : Record) → i < length xs
    → ((o : ℕ) → number_of mid o ≡ max (number_of old o) (vec (take i xs) o))
    → number_of new (get_or xs i d).origin
    ≡ max (number_of mid (get_or xs i d).origin) (get_or xs i d).number
    → ((o : ℕ) → (o ≡ (get_or xs i d).origin → ⊥) → number_of new o ≡ number_of mid o)
    → (o : ℕ) → number_of new o ≡ max (number_of old o) (vec (take (i + 1) xs) o)
known_more old mid new xs i d lt so raised others o =
    let r = get_or xs i d in
    let more : vec (take (i + 1) xs) o ≡ max (vec (take i xs) o) (number_from o r) =
    vec_more xs i d o lt in
    elim (cases_eq r.origin o) [
      | inl e ↦
          let own : number_from o r ≡ r.number =
          ap (λ b. cond b r.number 0) (eq-eqb r.origin o e) in
          let here : number_of new o ≡ max (number_of mid o) r.number =
          subst (λ p. number_of new p ≡ max (number_of mid p) r.number) e raised in
          omega (arith, so o, more, own, here)
      | inr other ↦
          let none : number_from o r ≡ 0 = ap (λ b. cond b r.number 0) (ne_eqb r.origin o other) in
          omega (arith, so o, more, none, others o (λ e. other (sym e)))
    ]

-- ---- a dump, one batch after the other

-- the records that the archive answered
pub asked : {A : Type 0} (t u : Store) (items_of : A → List Record) (v : ℕ → ℕ) (k : ℕ) (a : A)
    → Asks t u (Ok a) (λ x. items_of x ≡ missing t.content v k)
    → Transitions t u [] (λ marks R S. (S ≡ R) × IsLawfulContent R × (items_of a ≡ missing R v k))
asked t u items_of v k a asks =
    moves-stays t u [] (λ marks R S. (S ≡ R) × IsLawfulContent R × (items_of a ≡ missing R v k))
    asks.leaves.passes asks.stays (there-behind t u None asks.leaves) (λ honest R h.
    let is : t.content ≡ R = left-before t u R asks.leaves honest h in
    let rests = asks.leaves.before (asks.leaves.passes.honest honest) (in_use t u asks.leaves) in
    (refl, subst IsLawfulContent is rests.lawful, asks.answer honest ∙ ap (λ C. missing C v k) is))

-- a fault of its store
pub asked-none : {A : Type 0} (t u : Store) (fault : StoreFault) (P : A → Type 0)
    → Asks {A = A} t u (Err fault) P → Transitions t u (StoreFailed fault ∷ []) (λ marks R S. S ≡ R)
asked-none t u fault P asks = moves-stays t u (StoreFailed fault ∷ [])
    (λ marks R S. S ≡ R) asks.leaves.passes asks.stays (there-behind t u (Some fault) asks.leaves)
    (λ honest R h. refl)

lines-parts : (R : Content) (n : ℕ) → lines_of R ≡ lines_of (take n R) ++ lines_of (drop n R)
lines-parts R n = ap lines_of (sym (take-append-drop n R))
    ∙ flat_map-append line_of (take n R) (drop n R)

-- what was written so far is a first part
pub so-far-part : (R : Content) (known : List ℕ) (before now : Option (List ℕ))
    → IsSoFar R known before now → AppendsPart before now (lines_of R)
so-far-part R known before now (n, is, appends) =
    (lines_of (take n R), lines_of (drop n R), lines-parts R n, appends)

pub begun : (s : Store) (known : List ℕ) (before : Option (List ℕ))
    → ((o : ℕ) → number_of known o ≡ 0) → Dumping s s known before before
begun s known before zeros = moves-none s (λ marks R S. (S ≡ R) × IsSoFar R known before before)
    (λ R. (refl, (0, zeros, Appends-nil before)))

take-none : {X : Type 0} (k : ℕ) (l : List X) → 0 < k → take k l ≡ [] → l ≡ []
take-none k [] h e = refl
take-none zero (x ∷ xs) h e = absurd (omega (arith, h))
take-none (suc k) (x ∷ xs) h e = absurd cc

pub no-items : {X : Type 0} (l : List X) → (length l == 0) ≡ true → l ≡ []
no-items l e = nil_from_length l (eqb-true (length l) 0 e)

-- the records of a batch, by how many were written before it
batch-is : (R : Content) (n k : ℕ) (known : List ℕ) (records : List Record) → IsLawfulContent R
    → ((o : ℕ) → number_of known o ≡ vec (take n R) o) → records ≡ missing R (number_of known) k
    → records ≡ take k (drop n R)
batch-is R n k known records lawful is e =
    e ∙ missing_behind R n k (number_of known) lawful.closed.ordered lawful.closed.numbers is

all-records : (R : Content) (v : ℕ → ℕ) (k : ℕ) (records : List Record) → IsLawfulContent R
    → records ≡ missing R v k → AllByRecursion IsRecord records
all-records R v k records lawful e =
    all_from_has IsRecord records (λ r h.
    let there = (missing_within R v k r (subst (λ l. Has l r) e h)).0 in
    (lawful.records r there, lawful.closed.ticks r there))

take-grows : (R : Content) (n k : ℕ) → take (n + k) R ≡ take n R ++ take k (drop n R)
take-grows R n k = take-add n k R

-- what the last batch told, in terms of what was held at the start
abbrev pub Answered : (ℕ → ℕ) → ℕ → List Record → List StepResult → Content → Content → Type 0
Answered v k records marks R S = (S ≡ R) × IsLawfulContent R × (records ≡ missing R v k)

module _ (s t u : Store) (known : List ℕ) (before now after : Option (List ℕ))
    (so : Dumping s t known before now) where
  pub failed : (fault : StoreFault) → Transitions t u (StoreFailed fault ∷ []) (λ marks R S. S ≡ R)
      → Dumps s u before now (Err (dump.Store fault))
  failed fault q = (
    StoreFailed fault ∷ [],
    moves-then s t u [] (StoreFailed fault ∷ []) (λ marks R S. (S ≡ R) × IsSoFar R known before now)
        (λ marks R S. S ≡ R) (λ marks R S. (S ≡ R)
        × IsDumped R before now (fault ∷ []) (Err (dump.Store fault)))
        (λ ms ns R S T p e. (e ∙ p.0, (refl, so-far-part R known before now p.1))) so q,
  )

  module _ (k : ℕ) (records : List Record) (q :
      Transitions t u [] (Answered (number_of known) k records)) where
    -- of any content that was held, by how many of its records were written
    told : (To : Content → Type 0) → ((R : Content) (n : ℕ) → IsLawfulContent R
        → records ≡ missing R (number_of known) k → ((o : ℕ) → number_of known o ≡ vec (take n R) o)
        → Appends before now (lines_of (take n R)) → To R)
        → Transitions s u [] (λ marks R S. (S ≡ R) × To R)
    told To f =
        moves-then s t u [] [] (λ marks R S. (S ≡ R) × IsSoFar R known before now)
        (Answered (number_of known) k records) (λ marks R S. (S ≡ R) × To R)
        (λ ms ns R S T p a.
        let here = subst (λ C. IsSoFar C known before now) (sym p.0) p.1 in
        (a.0 ∙ p.0, subst To p.0 (f S here.0 a.1 a.2 here.1 here.2)))
        so q

    pub ended : 0 < k → records ≡ [] → Dumps s u before now (Ok tt)
    ended some none = (
      [],
      told (λ R. IsDumped R before now [] (Ok tt)) (λ R n lawful e is appends.
          let nothing : drop n R ≡ [] =
          take-none k (drop n R) some (sym (batch-is R n k known records lawful is e) ∙ none) in
          let all : lines_of R ≡ lines_of (take n R) =
          lines-parts R n ∙ ap (λ l. lines_of (take n R) ++ lines_of l) nothing
          ∙ append-nil (lines_of (take n R)) in
          (refl, subst (Appends before now) (sym all) appends)),
    )

    pub unwritten : (fault : DumpFault)
        → (fault ≡ dump.OutOfMemory) ⊎ ((fault ≡ dump.Store Refused)
        × (AllByRecursion IsRecord records → ⊥)) → Dumps s u before now (Err fault)
    unwritten fault why = elim why [
      | inl memory ↦ subst (λ f. Dumps s u before now (Err f)) (sym memory) (
        [],
        told (λ R. IsDumped R before now [] (Err dump.OutOfMemory))
            (λ R n lawful e is appends. (refl, so-far-part R known before now (n, is, appends))),
      )
      | inr isnt ↦ subst (λ f. Dumps s u before now (Err f)) (sym isnt.0) (
        [],
        told (λ R. IsDumped R before now [] (Err (dump.Store Refused)))
            (λ R n lawful e is appends.
            absurd (isnt.1 (all-records R (number_of known) k records lawful e))),
      )
    ]

    batch-lines : (R : Content) (n : ℕ) → records ≡ take k (drop n R)
        → lines_of (take (n + k) R) ≡ lines_of (take n R) ++ lines_of records
    batch-lines R n e = ap lines_of (take-grows R n k)
        ∙ flat_map-append line_of (take n R) (take k (drop n R))
        ∙ ap (λ l. lines_of (take n R) ++ lines_of l) (sym e)

    pub cut_off : AppendsPart now after (lines_of records) → Dumps s u before after (Err dump.Write)
    cut_off part = (
      [],
      told (λ R. IsDumped R before after [] (Err dump.Write)) (λ R n lawful e is appends.
          let b = batch-is R n k known records lawful is e in (
            refl,
            subst (AppendsPart before after) (sym
                (lines-parts R (n + k)
                ∙ ap (λ l. l ++ lines_of (drop (n + k) R)) (batch-lines R n b)))
                (part-first before after (lines_of (take n R) ++ lines_of records)
                (lines_of (drop (n + k) R)) (part-second before now after (lines_of (take n R))
                (lines_of records) appends part)),
          )),
    )

    pub goes-on : (more : List ℕ) → ((o : ℕ)
        → number_of more o ≡ max (number_of known o) (vec records o))
        → Appends now after (lines_of records) → Dumping s u more before after
    goes-on more raised sent =
        told (λ R. IsSoFar R more before after) (λ R n lawful e is appends.
        let b = batch-is R n k known records lawful is e in (
          n + k,
          λ o. raised o ∙ (ap (λ m. max m (vec records o)) (is o)
              ∙ (ap (λ l. max (vec (take n R) o) (vec l o)) b
              ∙ sym (ap (λ l. vec l o) (take-grows R n k)
              ∙ vec-append (take n R) (take k (drop n R)) o))),
          subst (Appends before after) (sym (batch-lines R n b))
              (Appends-trans before now after (lines_of (take n R))
              (lines_of records) appends sent),
        ))

  -- it goes on for longer than anybody counts
  pub endless : Dumps s t before now (Err dump.OutOfMemory)
  endless = (
    [],
    moves-as s t [] (λ marks R S. (S ≡ R) × IsSoFar R known before now)
        (λ marks R S. (S ≡ R) × IsDumped R before now [] (Err dump.OutOfMemory))
        (λ ms R S p. (p.0, (refl, so-far-part R known before now p.1))) so,
  )
