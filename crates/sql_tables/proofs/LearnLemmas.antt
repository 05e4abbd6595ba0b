-- Learning a record.
use Rattle.std.proofs.Common.{◌≡◌, ℕ, ℤ, pos, ◌≤◌, ◌<◌, Bool, true, false, cond, [], ◌∷◌, map, unwrap_or, Some, Result, Ok, Err, IfErr, IfOk, refl, sym, ap, subst, ◌∙◌, arith, is_gt, nat_le, IsPermutation}
use Rattle.std.specs.List.{list_any}
use Rattle.std.proofs.lemmas.Bool.{true≢false, le-leb}
use Rattle.std.proofs.lemmas.Int.{ints}
use Rattle.std.proofs.lemmas.List.Sorted.{IsPermutation-refl, IsPermutation-cons, IsPermutation-middle, IsPermutation-trans, IsPermutation-map}
use Rattle.sqlite_trees.specs.Tree.{Trees}
use Rattle.sqlite.specs.Effect.{Database}
use Rattle.sqlite.specs.State.{State, HasCleanDisk, Survives}
use Rattle.sqlite.proofs.StateLemmas.{survives_weaker, survives_then}
use Rattle.records.specs.Lists.{insert_sorted}
use Rattle.records.specs.Same.{same_record}
use Rattle.records.specs.Records.{name_cmp}
use Rattle.records.specs.Contents.{Content, Finding, Adds, Holds, Clash, Gap, TickTooFar, TickNotRising, finding, put, vec}
use Rattle.records.proofs.ContentsParts.{after_finding}
use Rattle.records.specs.Spelling.{IsLawfulRecord, IsShortRecord}
use Rattle.records.specs.declared.record.Record.{Record}
use Rattle.records.proofs.Spelled.{record_short}
use Rattle.records.proofs.Sizes.{fields_length}
use Rattle.archive.proofs.Listing.{lawful_put}
use Rattle.archive.specs.Store.{IsLawfulContent, answer_to, fault_in, IsOfOpening}
use Rattle.archive.specs.Listed.{is_broken}
use Rattle.archive.specs.declared.fault.StoreFault.{StoreFault}
use Rattle.archive.specs.declared.fault.StoreFault.TheVariants.{Broken}
use Rattle.sqlite_value.specs.Order.{Row}
use Rattle.std.proofs.Common.{OnOk, ◌≢◌}
use Rattle.archive.specs.declared.fault.LearnFault.{LearnFault}
use Rattle.sql_tables.specs.Words.{cells}
use Rattle.sql_tables.specs.Rows.{row_of, content_in, IsFilled, AreRecords}
use Rattle.sql_tables.specs.Derived.{AreKept, IsNextRow}
use Rattle.sql_tables.specs.State as state
use Rattle.sql_tables.specs.State.{IdlesOn, KeepsState, LeavesUnchanged}
use Rattle.sql_tables.specs.Learning.{Stored, Follows, Learned, IsCommitOf, IsLast, beyond, reached, is_added}
use Rattle.sql_tables.proofs.RowLemmas.{content_is}
use Rattle.sql_tables.proofs.KeptLemmas.{next_row}

pub short_enough : (r : Record) → IsLawfulRecord r → IsShortRecord r
short_enough r l =
    record_short (record r { tick = pos 1 }) (
      record {
        origin = l.origin;
        number = l.number;
        node = l.node;
        time = l.time;
        user =
            l.user;
        value = l.value;
        suits = l.suits;
        size =
            omega (arith, fields_length r, fields_length (record r { tick = pos 1 }), l.size);
      },
      (omega (arith, ints), omega (arith, ints)),
    )

pub put_permutes : (r : Record) (R : Content) → IsPermutation (put r R) (r ∷ R)
put_permutes r [] = IsPermutation-refl _
put_permutes r (x ∷ R) =
    elim (is_gt (name_cmp r x)) as (λ b.
    IsPermutation (cond b (x ∷ insert_sorted name_cmp r R) (r ∷ x ∷ R)) (r ∷ x ∷ R)) [
      | true ↦ IsPermutation-trans _ _ _ (IsPermutation-cons x _ _ (put_permutes r R))
          (IsPermutation-middle (x ∷ []) r R)
      | false ↦ IsPermutation-refl _
    ]

-- the row of the next record makes the tables those of the content with it
follows_by : (r : Record) (old new : Trees) → IsFilled old → IsLawfulRecord r
    → finding (content_in old) r ≡ Adds → state.Adds (row_of r) old new → Follows r old new
follows_by r old new (R, l, stand) lawful adds added =
    let is : content_in old ≡ R = content_is R old l stand in
    let next : finding R r ≡ Adds = subst (λ S. finding S r ≡ Adds) is adds in
    let all : IsLawfulContent (put r R) = lawful_put R r l lawful next in
    let rows : AreRecords (put r R) new =
    IsPermutation-trans _ _ _ (IsPermutation-map row_of (put r R) (r ∷ R) (put_permutes r R))
    (IsPermutation-trans _ _ _ (IsPermutation-cons (row_of r) (map row_of R)
    (cells (old 1)) stand) added.records) in
    record {
      filled = (put r R, all, rows);
      content = content_is (put r R) new all rows ∙ sym (ap (put r) is)
          ∙ sym (ap (λ f. unwrap_or (after_finding (content_in old) r f) (content_in old)) adds);
      kept = added.kept;
      meta = added.meta;
    }

-- and so does what a crash leaves of it
committed_by : (a b : State) (r : Record) → (HasCleanDisk b → HasCleanDisk a)
    → (HasCleanDisk a → IsFilled a.now.trees) → IsLawfulRecord r
    → (HasCleanDisk a → finding (content_in a.now.trees) r ≡ Adds)
    → Survives a b (state.Adds (row_of r) a.now.trees) → Survives a b (IsCommitOf r a.now.trees)
committed_by a b r early filled lawful next =
    survives_weaker a b _ _ (λ clean db added. let was = early clean in
    (next was, follows_by r a.now.trees db (filled was) lawful (next was) added, added.lists))

pub kept_by : (f : Finding) (R : Content) (r : Record) → is_added (answer_to f) ≡ false
    → unwrap_or (after_finding R r f) R ≡ R
kept_by Adds R r e = absurd (true≢false e)
kept_by Holds R r e = refl
kept_by Clash R r e = refl
kept_by (Gap m n) R r e = refl
kept_by TickTooFar R r e = refl
kept_by TickNotRising R r e = refl

pub adds_by : (f : Finding) → is_added (answer_to f) ≡ true → f ≡ Adds
adds_by Adds e = refl
adds_by Holds e = absurd (true≢false (sym e))
adds_by Clash e = absurd (true≢false (sym e))
adds_by (Gap m n) e = absurd (true≢false (sym e))
adds_by TickTooFar e = absurd (true≢false (sym e))
adds_by TickNotRising e = absurd (true≢false (sym e))

abbrev pub Judges : State → Record → Result Bool LearnFault → Type 0
Judges a r told = told ≡ answer_to (finding (content_in a.now.trees) r)

same_trees : (a b : State) → KeepsState a b → b.now.trees ≡ a.now.trees
same_trees a b s = ap (λ (d : Database). d.trees) s.same

-- a record that isn't added changes nothing
pub judged_only : (a b : State) (r : Record) (told : Result Bool LearnFault)
    → (HasCleanDisk a → IsFilled a.now.trees) → (HasCleanDisk a → AreKept a.now.trees)
    → (HasCleanDisk b → HasCleanDisk a) → LeavesUnchanged a b (Ok told) (Judges a r)
    → is_added told ≡ false → Learned a b r (Ok told)
judged_only a b r told filled kept early asked none = record {
  answered = λ clean.
      let s = asked.kept clean refl in
      let is = asked.answer clean in
      let same = same_trees a b s in (
        is,
        record { idles = s.idles; schema = ap (λ (d : Database). d.schema) s.same },
        record {
          filled = subst IsFilled (sym same) (filled (early clean));
          kept = subst AreKept (sym same) (kept (early clean));
          content = ap content_in same
              ∙ sym (kept_by (finding (content_in a.now.trees) r) (content_in a.now.trees) r
              (ap is_added (sym is) ∙ none));
          meta = ap (λ (t : Trees). t 0) same;
        },
      );
  kept = λ clean ok. tt;
  met = tt;
  crash = survives_weaker a b _ _ (λ clean db none. absurd none) asked.crash;
}

pub next_by : (a b : State) (r : Record) (told : Result Bool LearnFault)
    → LeavesUnchanged a b (Ok told) (Judges a r) → is_added told ≡ true → HasCleanDisk b
    → finding (content_in b.now.trees) r ≡ Adds
next_by a b r told asked some clean =
    ap (λ t. finding (content_in t) r) (same_trees a b (asked.kept clean refl))
    ∙ adds_by (finding (content_in a.now.trees) r)
    (ap is_added (sym (asked.answer clean)) ∙ some)

pub stored_as : (a b : State) (r : Record) (row : Row) (result : Result Unit StoreFault)
    → row ≡ row_of r → (HasCleanDisk b
    → OnOk result (IdlesOn a b × state.Adds row a.now.trees b.now.trees))
    → (HasCleanDisk b → IfErr result (λ fault. fault ≢ Broken → KeepsState a b))
    → IfErr result (λ fault. IsOfOpening fault → ⊥) → Survives a b (state.Adds row a.now.trees)
    → Stored a b r result
stored_as a b r row result is added refused met crash = record {
  added = λ clean. subst (λ x. OnOk result (IdlesOn a b × state.Adds x a.now.trees b.now.trees)) is
      (added clean);
  kept = λ clean ok. kept result ok (refused clean);
  met = met;
  crash = subst (λ x. Survives a b (state.Adds x a.now.trees)) is crash;
}
  where
    kept : (x : Result Unit StoreFault) → is_broken (fault_in x) ≡ false
        → IfErr x (λ fault. fault ≢ Broken → KeepsState a b) → IfErr x (λ _. KeepsState a b)
    kept (Ok t) ok h = tt
    kept (Err f) ok h = h (λ e. absurd (true≢false (sym (ap (λ g. is_broken (Some g)) e) ∙ ok)))

pub stored_ok : (a b : State) (r : Record) → (HasCleanDisk b → HasCleanDisk a)
    → (HasCleanDisk a → IsFilled a.now.trees) → IsLawfulRecord r
    → (HasCleanDisk a → finding (content_in a.now.trees) r ≡ Adds) → Stored a b r (Ok tt)
    → Learned a b r (Ok (Ok true))
stored_ok a b r early filled lawful next stored = record {
  answered = λ clean.
      let was = early clean in
      let both = stored.added clean in (
        ap answer_to (sym (next was)),
        both.0,
        follows_by r a.now.trees b.now.trees (filled was) lawful (next was) both.1,
      );
  kept = λ clean ok. tt;
  met = tt;
  crash = committed_by a b r early filled lawful next stored.crash;
}

pub stored_err : (a b : State) (r : Record) (fault : StoreFault) → (HasCleanDisk b → HasCleanDisk a)
    → (HasCleanDisk a → IsFilled a.now.trees) → IsLawfulRecord r
    → (HasCleanDisk a → finding (content_in a.now.trees) r ≡ Adds) → Stored a b r (Err fault)
    → Learned a b r (Err fault)
stored_err a b r fault early filled lawful next stored = record {
  answered = λ clean. tt;
  kept = stored.kept;
  met = stored.met;
  crash = committed_by a b r early filled lawful next stored.crash;
}

-- what is learned behind a judgement is learned
pub judged_then : (a b c : State) (r : Record) (told : Result Bool LearnFault)
    (result : Result (Result Bool LearnFault) StoreFault) → (HasCleanDisk c → HasCleanDisk b)
    → LeavesUnchanged a b (Ok told) (Judges a r) → Learned b c r result → Learned a c r result
judged_then a b c r told result early asked one = record {
  answered = λ clean. go result ((asked.kept (early clean) refl).same) (one.answered clean);
  kept = λ clean ok. kept result (λ s.
      record { idles = s.idles; same = s.same ∙ (asked.kept (early clean) refl).same })
      (one.kept clean ok);
  met = one.met;
  crash = survives_then a b c _ _ _ (λ clean db none. absurd none)
      (λ clean db p. subst (λ (t : Trees). IsCommitOf r t db) (same clean) p) asked.crash one.crash;
}
  where
    same : HasCleanDisk c → b.now.trees ≡ a.now.trees
    same clean = same_trees a b (asked.kept (early clean) refl)

    go : (x : Result (Result Bool LearnFault) StoreFault) → b.now ≡ a.now
        → IfOk x (λ t. (t ≡ answer_to (finding (content_in b.now.trees) r)) × IdlesOn b c
        × Follows r b.now.trees c.now.trees)
        → IfOk x (λ t. (t ≡ answer_to (finding (content_in a.now.trees) r)) × IdlesOn a c
        × Follows r a.now.trees c.now.trees)
    go (Ok t) e h = (
      h.0 ∙ ap (λ (d : Database). answer_to (finding (content_in d.trees) r)) e,
      record { idles = h.1.idles; schema = h.1.schema ∙ ap (λ (d : Database). d.schema) e },
      subst (λ (d : Database). Follows r d.trees c.now.trees) e h.2,
    )
    go (Err f) e h = tt

    kept : (x : Result (Result Bool LearnFault) StoreFault) → (KeepsState b c → KeepsState a c)
        → IfErr x (λ _. KeepsState b c) → IfErr x (λ _. KeepsState a c)
    kept (Ok t) f h = tt
    kept (Err e) f h = f h

-- ---- what a record meets

pub found_beyond : (R : Content) (r : Record) (last : ℕ × ℤ) → IsLast R r.origin last
    → last.0 < r.number → beyond last.0 last.1 r ≡ finding R r
found_beyond R r last h above =
    let far : nat_le r.number (vec R r.origin) ≡ false =
    not_reached r.number (vec R r.origin) (omega (arith, h.0, above)) in
    rw (far, h.0, h.1) refl
  where
    not_reached : (m n : ℕ) → n < m → nat_le m n ≡ false
    not_reached m n l = grind arith

pub found_reached : (R : Content) (r : Record) (last : ℕ × ℤ) (same : Bool) → IsLast R r.origin last
    → r.number ≤ last.0 → same ≡ list_any (same_record r) R → reached same ≡ finding R r
found_reached R r last same h below is =
    let near : nat_le r.number (vec R r.origin) ≡ true =
    le-leb r.number (vec R r.origin) (omega (arith, h.0, below)) in
    rw (near, is) refl

-- the row of the next record is newer than those of its origin
pub next_of : (r : Record) (db : Trees) → IsFilled db → finding (content_in db) r ≡ Adds
    → IsNextRow (row_of r) db
next_of r db (R, l, stand) adds = next_row R r db stand
    (subst (λ S. finding S r ≡ Adds) (content_is R db l stand) adds)

-- behind a judgement the tables are as they were
pub kept_behind : {A : Type 0} (a b : State) (told : A) (P : A → Type 0)
    → (HasCleanDisk a → AreKept a.now.trees) → LeavesUnchanged a b (Ok told) P
    → (HasCleanDisk b → HasCleanDisk a) → HasCleanDisk b → AreKept b.now.trees
kept_behind a b told P kept asked early clean =
    subst AreKept (sym (same_trees a b (asked.kept clean refl))) (kept (early clean))
