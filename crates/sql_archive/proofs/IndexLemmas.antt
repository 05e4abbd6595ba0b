-- What an archive holds when the index over live values is made.
use Rattle.std.proofs.Common.{◌≡◌, inl, inr, ℕ, List, true, false, IfSome, Result, Ok, Err, IfOk, IfErr, sym, ap, ◌∙◌, subst, subst₂, arith, map, flat_map, IsPermutation}
use Rattle.std.proofs.lemmas.Bool.{true≢false}
use Rattle.sqlite_trees.specs.declared.store.Store.{Ghosts}
use Rattle.sqlite_trees.specs.Tree.{Trees}
use Rattle.sqlite.specs.Held.{state}
use Rattle.sqlite.specs.Effect.{Database}
use Rattle.sqlite.specs.State.{HasCleanDisk}
use Rattle.records.specs.Lists.{sort_by}
use Rattle.records.specs.Records.{name_cmp}
use Rattle.archive.specs.declared.fault.StoreFault.{StoreFault}
use Rattle.archive.specs.Store.{Asks, IsOfOpening, fault_in}
use Rattle.archive.specs.Listed.{is_broken, failures}
use Rattle.sql_tables.specs.Words.{cells}
use Rattle.sql_tables.specs.Rows.{content_in, records_in, row_of, IsStored, meta_columns}
use Rattle.sql_tables.specs.Derived.{AreKept, AreNumbered, currents_of, current_columns, vectors_of, vector_columns}
use Rattle.sql_tables.specs.Keeping.{KeepsTables}
use Rattle.sql_tables.specs.Indexing.{IsIndexed, Indexes}
use Rattle.sql_opening.specs.Latest.{Remembers}
use Rattle.sql_archive.specs.Kept.{Kept, IsIntact, Serves, store_of}
use Rattle.sql_archive.proofs.StoreLemmas.{Laws, rests, leaves, stands-kept-by, stores-left}

-- ---- where the rows stay

content_still : (old new : Trees) → KeepsTables old new → content_in new ≡ content_in old
content_still old new keeps =
    ap (λ rows. sort_by name_cmp (flat_map records_in (cells rows))) keeps.rest.records

stored_still : (id : List ℕ) (own : ℕ) (old new : Trees) → KeepsTables old new
    → IsStored id own old → IsStored id own new
stored_still id own old new keeps stored = record {
  content = stored.content;
  lawful = stored.lawful;
  stands = record {
    meta = ap (map meta_columns) keeps.rest.meta ∙ stored.stands.meta;
    records = subst (λ rows. IsPermutation (map row_of stored.content) (cells rows))
        (sym keeps.rest.records) stored.stands.records;
  };
}

kept_still : (old new : Trees) → KeepsTables old new → AreKept old → AreKept new
kept_still old new keeps kept = record {
  currents = subst₂ (λ rows currents. IsPermutation (currents_of (cells rows))
      (map current_columns currents)) (sym keeps.rest.records) (sym keeps.currents) kept.currents;
  vectors = subst₂ (λ rows vectors. IsPermutation (vectors_of (cells rows))
      (map vector_columns vectors)) (sym keeps.rest.records) (sym keeps.rest.vectors) kept.vectors;
  numbered = (
    subst AreNumbered (sym keeps.currents) kept.numbered.0,
    subst AreNumbered (sym keeps.rest.vectors) kept.numbered.1,
  );
}

-- ---- of an archive

module _ {S : Type 0} (g : Ghosts S) (laws : Laws g) (a b : Kept S)
    (answer : Result Unit StoreFault) (was : Serves g a) (used : a.broken ≡ false)
    (id : b.id ≡ a.id) (own : b.number ≡ a.number)
    (made : Indexes (state g a.conn) (state g b.conn) answer)
    (broken : b.broken ≡ is_broken (fault_in answer)) where
  early : HasCleanDisk (state g b.conn) → HasCleanDisk (state g a.conn)
  early clean = omega (arith, made.crash.clean, clean)

  -- its tables stand for what they stood for
  pub serves-indexed : b.numbers ≡ a.numbers → b.tick ≡ a.tick → Serves g b
  serves-indexed numbers tick = (
    stands answer made broken,
    stores-left g laws a b (IsIndexed (state g a.conn).now.trees) was id own made.crash
        (λ clean db it.
        let before = was.0 used clean in (
          (true, it.lists),
          stored_still a.id a.number (state g a.conn).now.trees db it.keeps before.stored,
          kept_still (state g a.conn).now.trees db it.keeps before.kept,
        )),
  )
    where
      remembered : Remembers (content_in (state g a.conn).now.trees) a.numbers a.tick
          → Remembers (content_in (state g a.conn).now.trees) b.numbers b.tick
      remembered m =
          subst₂ (Remembers (content_in (state g a.conn).now.trees)) (sym numbers) (sym tick) m

      stands : (told : Result Unit StoreFault) → Indexes (state g a.conn) (state g b.conn) told
          → b.broken ≡ is_broken (fault_in told) → b.broken ≡ false
          → HasCleanDisk (state g b.conn)
          → IsIntact b.id b.number b.numbers b.tick (state g b.conn)
      stands (Ok told) it told_broken ok clean =
          let all = it.made clean in
          let before = was.0 used (early clean) in
          record {
            idles = all.0;
            stored = subst₂ (λ i n. IsStored i n (state g b.conn).now.trees) (sym id) (sym own)
                (stored_still a.id a.number (state g a.conn).now.trees (state g b.conn).now.trees
                all.2 before.stored);
            kept = kept_still (state g a.conn).now.trees (state g b.conn).now.trees all.2
                before.kept;
            remembered = subst (λ R. Remembers R b.numbers b.tick)
                (sym (content_still (state g a.conn).now.trees (state g b.conn).now.trees all.2))
                (remembered before.remembered);
          }
      stands (Err fault) it told_broken ok clean =
          stands-kept-by g laws a b was used id own remembered early
          (λ c o. it.kept c (sym told_broken ∙ o)) ok clean

  -- and it holds what it held
  pub asks-indexed : {P : Unit → Type 0} → Serves g b → ((told : Unit) → P told)
      → b.faults ≡ failures a.faults (fault_in answer)
      → Asks (store_of g a) (store_of g b) answer P
  asks-indexed {P} serves all count = record {
    answer = λ clean. says answer;
    stays = record {
      content = λ clean ok. still answer made broken clean ok;
      crash = λ clean left m. elim (made.crash.crash clean m.0 m.1) [
        | inl old ↦ (m.0, old, m.2)
        | inr new ↦ subst (store_of g a).may_hold
            (sym (m.2 ∙ content_still (state g a.conn).now.trees m.0 new.keeps))
            (rests g laws a was (early clean) used).stays
      ];
    };
    leaves = leaves g laws a b (fault_in answer) (IsIndexed (state g a.conn).now.trees) was serves
        own id made.crash count broken (λ e. absurd (true≢false (sym e ∙ used)))
        (met answer made.met);
  }
    where
      says : (told : Result Unit StoreFault) → IfOk told P
      says (Ok told) = all told
      says (Err fault) = tt

      still : (told : Result Unit StoreFault) → Indexes (state g a.conn) (state g b.conn) told
          → b.broken ≡ is_broken (fault_in told) → HasCleanDisk (state g b.conn)
          → b.broken ≡ false
          → content_in (state g b.conn).now.trees ≡ content_in (state g a.conn).now.trees
      still (Ok told) it told_broken clean ok = content_still (state g a.conn).now.trees
          (state g b.conn).now.trees (it.made clean).2
      still (Err fault) it told_broken clean ok = ap (λ (d : Database). content_in d.trees)
          (it.kept clean (sym told_broken ∙ ok)).same

      met : (told : Result Unit StoreFault) → IfErr told (λ f. IsOfOpening f → ⊥)
          → IfSome (fault_in told) (λ f. IsOfOpening f → ⊥)
      met (Ok told) m = tt
      met (Err fault) m = m
