-- What CREATE INDEX makes of an archive's tables.
use Rattle.std.proofs.Common.{◌≡◌, ◌≢◌, inl, inr, ℕ, Bool, true, false, List, [], None, Ok, Err, Result, OnOk, IsTrue, refl, sym, ap, subst, ◌∙◌, arith}
use Rattle.sqlite_schema.specs.declared.schema.Index.{Index}
use Rattle.sqlite_schema.specs.declared.schema.Schema.{Schema}
use Rattle.sqlite_schema.specs.declared.command.Command.TheVariants.{CreateIndex}
use Rattle.sqlite_resolve.specs.declared.error.CompileError.{CompileError}
use Rattle.sqlite_resolve.specs.Compile.{index_defined_by}
use Rattle.sqlite_catalog.specs.Change.{indexed, KeepsRows}
use Rattle.sqlite_catalog.specs.Listing.{Lists}
use Rattle.sqlite_trees.specs.Objects.{catalog_tree}
use Rattle.sqlite_trees.specs.Tree.{Trees}
use Rattle.sqlite_tied.specs.Compute.{everything}
use Rattle.sqlite.specs.Does.{Tally, Does}
use Rattle.sqlite.specs.declared.error.Error.{Error}
use Rattle.sqlite.specs.Listing.{understood}
use Rattle.sqlite.specs.Effect.{Database}
use Rattle.sqlite.specs.State.{State, HasCleanDisk, Survives, IsUnchanged, mode_of, ExecutesInside}
use Rattle.sqlite.proofs.StateLemmas.{survives_then, survives_weaker}
use Rattle.sqlite.proofs.Callers.{IsPlain, command_of, statement_of, runs_as}
use Rattle.sql_schema.specs.Tables.{archive_schema, live_index, third_table}
use Rattle.archive.specs.declared.fault.StoreFault.{StoreFault}
use Rattle.archive.specs.declared.fault.StoreFault.TheVariants.{Refused, Broken}
use Rattle.archive.specs.Store.{IsOfOpening, fault_in}
use Rattle.archive.specs.Listed.{is_broken}
use Rattle.sql_tables.specs.State.{Making, HasTables, Idles, IsOpenAndIdle}
use Rattle.sql_tables.specs.Keeping.{KeepsTables}
use Rattle.sql_tables.specs.Indexing.{IsIndexed, Indexes}
use Rattle.sql_tables.proofs.Texts.{index_text}
use Rattle.sql_tables.proofs.AskLemmas.{survives_itself}
use Rattle.sql_tables.proofs.WriteLemmas.{went, same_value, stays_behind}

-- the index as its text defines it, before it has a tree
abbrev defined : Index
defined = record live_index { tree = 0 }

index_is : (command_of (understood (archive_schema false) index_text) ≡ CreateIndex 2)
    × (statement_of index_text (understood (archive_schema false) index_text) ≡ index_text)
    × IsPlain (understood (archive_schema false) index_text)
    × (index_defined_by third_table index_text ≡ Ok defined)
    × (indexed (archive_schema false) third_table defined ≡ archive_schema true)
unfolding understood everything
index_is = (refl, refl, (refl, refl), refl, refl)

pub makes_index : (old new : State) (r : Result ℕ Error) → Making (archive_schema false) old
    → ExecutesInside 0 index_text [] old new r
    → OnOk r (Making (archive_schema true) new × (new.committed ≡ old.committed)
    × IsIndexed old.now.trees new.now.trees)
makes_index old new (Err e) was h = tt
makes_index old new (Ok count) was h =
    let w = runs_as index_text [] old new (archive_schema false) was.has (CreateIndex 2) index_is.0
    index_is.2 count h.0 in
    let changed = subst (λ t. Does old.step_limit (mode_of old) []
    (record old.now { schema = archive_schema false }) t None (CreateIndex 2)
    (Ok (w.tally, new.now))) index_is.1
    (subst (λ s. Does old.step_limit (mode_of old) [] (record old.now { schema = s })
    (statement_of index_text (understood (archive_schema false) index_text)) None (CreateIndex 2)
    (Ok (w.tally, new.now))) was.has w.changed) in
    let all = went changed in
    let made = all.1 in
    let is : made.index ≡ defined = let both : ◌≡◌ {A = Result Index CompileError} (Ok made.index)
    (Ok defined) = sym made.defined ∙ index_is.3 in cc in
    let now : new.now ≡ all.0 = ap (λ (p : Tally × Database). p.1) (same_value all.2) in
    let has : new.now.schema ≡ archive_schema true = ap (λ (d : Database). d.schema) now ∙ made.is
    ∙ ap (indexed (archive_schema false) third_table) is ∙ index_is.4 in
    let rows = subst (λ (d : Database). KeepsRows (archive_schema false).tables old.now.trees
    d.trees) (sym now) made.rows in (
      record { inside = h.1.mode; has = has },
      h.1.committed_is,
      record {
        keeps = record {
          rest = record { meta = rows.0; records = rows.1.0; vectors = rows.1.1.1.0 };
          currents = rows.1.1.0;
        };
        lists = subst (Lists (new.now.trees catalog_tree)) has w.sound.lists;
      },
    )

-- ---- whether it stands, and where it fails

pub plainly : (s : State) (told : Bool) → HasTables s
    → ((indexed : Bool) → s.now.schema ≡ archive_schema indexed → told ≡ indexed)
    → s.now.schema ≡ archive_schema told
plainly s told has tells = has.1 ∙ ap archive_schema (sym (tells has.0 has.1))

pub stands_already : (s : State) → (HasCleanDisk s → Idles s)
    → ((indexed : Bool) → s.now.schema ≡ archive_schema indexed → true ≡ indexed)
    → Indexes s s (Ok tt)
stands_already s idles tells = record {
  made = λ clean. let was = idles clean in (
    was,
    plainly s true was.tables tells,
    record { rest = record { meta = refl; records = refl; vectors = refl }; currents = refl },
  );
  kept = λ clean ok. tt;
  met = tt;
  crash = survives_weaker s s _ _ (λ clean db none. absurd none) (survives_itself s);
}

pub not_begun : (s : State) → (HasCleanDisk s → Idles s) → Indexes s s (Err Refused)
not_begun s idles = record {
  made = λ clean. tt;
  kept = λ clean ok. record { idles = idles clean; same = refl };
  met = none;
  crash = survives_weaker s s _ _ (λ clean db none. absurd none) (survives_itself s);
}
  where
    none : IsOfOpening Refused → ⊥
    none (inl e) = let bad = e in cc
    none (inr e) = let bad = e in cc

pub index_made : (old new : State)
    → (HasCleanDisk new → Idles new × IsIndexed old.now.trees new.now.trees)
    → (HasCleanDisk new → new.now.schema ≡ archive_schema true)
    → Survives old new (IsIndexed old.now.trees) → Indexes old new (Ok tt)
index_made old new made has crash = record {
  made = λ clean. let all = made clean in (all.0, has clean, all.1.keeps);
  kept = λ clean ok. tt;
  met = tt;
  crash = crash;
}

pub index_failed : (old mid new : State) (fault : StoreFault) → (HasCleanDisk old → Idles old)
    → (HasCleanDisk mid → IsTrue mid.is_open → IsOpenAndIdle mid × (mid.now ≡ old.committed))
    → Survives old mid (IsIndexed old.now.trees)
    → (HasCleanDisk new → fault ≢ Broken → IsUnchanged mid new) → (IsOfOpening fault → ⊥)
    → Survives mid new (λ _. ⊥) → Indexes old new (Err fault)
index_failed old mid new fault idles back first alive met second = record {
  made = λ clean. tt;
  kept = λ clean ok.
      let late : HasCleanDisk mid = omega (arith, second.clean, clean) in
      let early : HasCleanDisk old = omega (arith, first.clean, late) in
      let same = alive clean (λ broken. shut fault broken ok) in
      let all = back late same.0.was_open in
      stays_behind old mid new (idles early) all.0 all.1 same;
  met = met;
  crash = survives_then old mid new _ _ _ (λ clean db made. made) (λ clean db none. absurd none)
      first second;
}
  where
    shut : (f : StoreFault) → f ≡ Broken → is_broken (fault_in {A = Unit {0}} (Err f)) ≡ false → ⊥
    shut f is ok = let bad = rw is at ok in cc
