-- How an archive begins, and what its files hold.
use Rattle.std.proofs.Common.{◌≡◌, ◌⊎◌, inl, inr, Bool, false, ℕ, ℤ, pos, List, [], ◌∷◌, map, length, slice_index_or, Err, IsTrue, sym, ap, subst, ◌∙◌, arith, IsPermutation}
use Rattle.std.proofs.Math.Logic.{∥∥₁_elim, ∥∥₁_map}
use Rattle.sqlite_disk.specs.declared.Disk.{Ghosts}
use Rattle.sqlite_disk.specs.declared.Files.{Files}
use Rattle.sqlite_wal.specs.Recovery.{Image}
use Rattle.sqlite_wal.specs.Files.{seen_image}
use Rattle.sqlite_wal.specs.Reads.{AreClean}
use Rattle.sqlite_pool.specs.Pool as pool
use Rattle.sqlite_store.specs.Laws.{settled_at}
use Rattle.sqlite_wal.proofs.LogLemmas.{SeenMayStay}
use Rattle.sqlite_pool.proofs.StateLemmas.{seen_may_be_left}
use Rattle.sqlite_store.specs.FileStore.{state, view, faults, recovers, is_shielded}
use Rattle.sqlite_store.specs.FileStore as store
use Rattle.sqlite_store.specs.declared.store.FileStore.{FileStore}
use Rattle.sqlite_trees.specs.View.{IsClean, IsQuiet}
use Rattle.sqlite_trees.specs.Tree.{Trees}
use Rattle.sqlite_trees.specs.Props.{Trees-set}
use Rattle.sqlite_trees.specs.Objects.{catalog_tree}
use Rattle.sqlite_trees.proofs.Doubt.{no_doubt}
use Rattle.sqlite_schema.specs.declared.schema.Schema.{Schema}
use Rattle.sqlite_catalog.specs.Listing.{Lists}
use Rattle.sqlite_catalog.proofs.ReadLemmas.{lists_once}
use Rattle.sqlite.proofs.Theorems.{opens_again}
use Rattle.sqlite.specs.Start.{FindsIn}
use Rattle.sqlite.specs.Effect.{Database}
use Rattle.sqlite.specs.State.{State, HasCleanDisk, Survives, IsLive, Opens}
use Rattle.sqlite.specs.Held.{Held, AreDatabases}
use Rattle.sqlite.specs.Files.{file_state, HoldsDatabase, image_of, IsCleanLeft, LeavesFiles}
use Rattle.sqlite.specs.Closing.{IsCopied, files_left}
use Rattle.sqlite.specs.declared.file.Leftover.{Leftover}
use Rattle.sqlite.specs.declared.file.Leftover.TheVariants as left
use Rattle.records.specs.Contents.{Content}
use Rattle.sql_schema.specs.Tables.{meta, no_schema, schema1, archive_schema, ListsArchive, beside_schema}
use Rattle.std.specs.List.{flat_map}
use Rattle.sqlite_value.specs.Order.{Row}
use Rattle.records.specs.Lists.{sort_by}
use Rattle.records.specs.Records.{name_cmp}
use Rattle.sql_opening.specs.Clearing.{AreBare, IsCleared}
use Rattle.std.proofs.lemmas.List.Sorted.{IsPermutation-trans}
use Rattle.sql_opening.specs.Renewing.{cells1, content1_in, IsStored1, IsStoreOf1, IsRenewed}
use Rattle.sql_tables.proofs.RowLemmas.{content_from}
use Rattle.sql_schema.proofs.StandingLemmas.{lists_archive}
use Rattle.sql_tables.specs.Rows.{content_in, row_of, records_in, meta_row, meta_columns, IsStored, IsStoreOf, meta_cells}
use Rattle.sql_tables.specs.Derived.{AreKept, AreNumbered, currents_of, current_columns, vectors_of, vector_columns}
use Rattle.sql_tables.specs.Words.{cells}
use Rattle.sql_archive.specs.Kept.{IsIntact}
use Rattle.archive.specs.declared.fault.StoreFault.{StoreFault}
use Rattle.sql_opening.specs.Opening.{Starts, IsBegunIn, IsRefused, checked_meta}
use Rattle.sql_archive.specs.Files.{HoldsContent, Resumes, ResumesOnly, ResumesAmong, IsAnothers, EngineLeaves, KeepsFound, IsLeftOf}
use Rattle.sql_opening.proofs.OpenLemmas.{nothing_in}

-- new tables hold the content of those of format 1
renewed_content : (id : List ℕ) (own : ℕ) (replica : ℤ) (old new : Trees) → IsStored1 id own old
    → IsRenewed id replica (cells1 old) new → content_in new ≡ content1_in old
renewed_content id own replica old new stored made =
    content_from stored.content (cells (new 1)) stored.lawful
    (IsPermutation-trans (map row_of stored.content) (cells1 old)
    (cells (new 1)) stored.records made.records)
    ∙ sym (content_from stored.content (cells1 old) stored.lawful stored.records)

-- tables that are left hold the content that they held
same_content : (old new : Trees) → IsCleared old new → content_in new ≡ content_in old
same_content old new cleared = ap (λ rows. sort_by name_cmp (flat_map records_in (cells rows)))
    cleared.keeps.records

-- and so do those of which they were left
pub stored_before : (id : List ℕ) (own : ℕ) (old new : Trees) → IsCleared old new
    → IsStored id own new → IsStored id own old
stored_before id own old new cleared stored = record {
  content = stored.content;
  lawful = stored.lawful;
  stands = record {
    meta = ap (map meta_columns) (sym cleared.keeps.meta) ∙ stored.stands.meta;
    records = subst (λ rows. IsPermutation (map row_of stored.content) (cells rows))
        cleared.keeps.records stored.stands.records;
  };
}

pub kept_before : (old new : Trees) → IsCleared old new → AreKept new → AreKept old
kept_before old new cleared kept =
    let k = cleared.keeps in
    let P : List Row → List Row → List Row → Type 0 =
    λ records currents vectors.
    IsPermutation (currents_of (cells records)) (map current_columns currents)
    × IsPermutation (vectors_of (cells records)) (map vector_columns vectors)
    × AreNumbered currents × AreNumbered vectors in
    let all : P (old 1) (old 4) (old 6) =
    subst (λ r. P r (old 4) (old 6)) k.records
    (subst (λ c. P (new 1) c (old 6)) k.currents
    (subst (λ v. P (new 1) (new 4) v) k.vectors
    (kept.currents, kept.vectors, kept.numbered.0, kept.numbered.1))) in
    record { currents = all.0; vectors = all.1; numbered = (all.2, all.3) }

-- what was opened lists its schema
found_lists : (old : State) → Opens old → IsLive old
    → Lists (old.committed.trees catalog_tree) old.now.schema
found_lists old opens live = subst (λ (t : Trees). Lists (t catalog_tree) old.now.schema)
    (ap (λ (d : Database). d.trees) opens.clean) (live opens.is_open).0.lists

-- what an archive that began with what an opening found goes on with
pub resumes : (image : Image) (id : List ℕ) (own : ℕ) (old new : State) → Opens old → IsLive old
    → FindsIn image old → Starts id own old.now new.now
    → Resumes image id own (content_in new.now.trees)
resumes image id own old new opens live found starts =
    record {
      db = old.committed.trees;
      found =
          record { holds = found.holds; reads = found.reads };
      tells = go starts;
    }
  where
    same : old.now.trees ≡ old.committed.trees
    same = ap (λ (d : Database). d.trees) opens.clean

    lists : Lists (old.committed.trees catalog_tree) old.now.schema
    lists = found_lists old opens live

    go : Starts id own old.now new.now
        → HoldsContent id own old.committed.trees (content_in new.now.trees)
    go (inl (inl made)) = inl (
      subst (Lists (old.committed.trees catalog_tree)) made.0 lists,
      nothing_in new.now.trees made.1.records,
    )
    go (inl (inr made)) = inr (inr
        (inl (
          (
            subst (Lists (old.committed.trees catalog_tree)) made.0 lists,
            subst (IsStored1 id own) same made.1,
          ),
          renewed_content id own (pos own) old.now.trees new.now.trees made.1 made.2
              ∙ ap content1_in same,
        )))
    go (inr (stored, kept, inl stood)) =
        inr (inl (
          (
            lists_archive (old.committed.trees catalog_tree) old.now.schema stood.0 lists,
            subst (IsStored id own) same stored,
            subst AreKept same kept,
          ),
          ap content_in (ap (λ (d : Database). d.trees) stood.1 ∙ same),
        ))
    go (inr (stored, kept, inr cleared)) =
        inr (inr (inr (
          (
            subst (Lists (old.committed.trees catalog_tree)) cleared.0 lists,
            subst AreBare same cleared.1,
            subst (IsStored id own) same stored,
            subst AreKept same kept,
          ),
          same_content old.now.trees new.now.trees cleared.3
              ∙ ap content_in same,
        )))

-- the files of another archive, or of another replica, say so
pub another : (image : Image) (id : List ℕ) (own : ℕ) (fault : StoreFault) (old : State) → Opens old
    → IsLive old → FindsIn image old → IsRefused id own old.now fault
    → IsAnothers image id own fault
another image id own fault old opens live found refused = record {
  db = old.committed.trees;
  found = record { holds = found.holds; reads = found.reads };
  schema = old.now.schema;
  lists = found_lists old opens live;
  begins = refused.schema;
  judged = subst (λ t. checked_meta id own (meta_cells t) ≡ Err fault) same refused.judged;
}
  where
    same : old.now.trees ≡ old.committed.trees
    same = ap (λ (d : Database). d.trees) opens.clean

no_beside : no_schema ≡ beside_schema → ⊥
no_beside e = let n : 0 ≡ 6 = ap (λ (s : Schema). length s.tables) e in absurd (omega (arith, n))

apart_beside : (indexed : Bool) → beside_schema ≡ archive_schema indexed → ⊥
apart_beside indexed e = let n : 6 ≡ 4 = ap (λ (s : Schema). length s.tables) e in
    absurd (omega (arith, n))

first_beside : beside_schema ≡ schema1 → ⊥
first_beside e = let n : 6 ≡ 4 = ap (λ (s : Schema). length s.tables) e in absurd (omega (arith, n))

no_first : no_schema ≡ schema1 → ⊥
no_first e = let n : 0 ≡ 4 = ap (λ (s : Schema). length s.tables) e in absurd (omega (arith, n))

-- the columns of the second table tell them apart
apart_first : (indexed : Bool) → schema1 ≡ archive_schema indexed → ⊥
apart_first indexed e = let n : 8 ≡ 9 = ap
    (λ (s : Schema). length (slice_index_or s.tables 1 meta).columns) e in absurd (omega (arith, n))

two_schemas : (indexed : Bool) → no_schema ≡ archive_schema indexed → ⊥
two_schemas indexed e = let n : 0 ≡ 4 = ap (λ (s : Schema). length s.tables) e in
    absurd (omega (arith, n))

-- what is opened of the files of an archive that was closed is its content
pub closed_is : {D : Type 0} {g : Ghosts D} (c : Held (FileStore D g)) (files : Files D)
    (whose : List ℕ) (number : ℕ) (numbers : List ℕ) (tick : ℤ)
    → (HasCleanDisk (file_state c) → IsIntact whose number numbers tick (file_state c))
    → IsLive (file_state c)
    → IsCopied c files → ResumesOnly (image_of g files) (content_in (file_state c).now.trees)
closed_is {D} {g} c files whose number numbers tick stands live copied id own S resumed =
    go resumed.tells
  where
    s : IsIntact whose number numbers tick (file_state c)
    s = stands copied.was_clean

    same : resumed.db ≡ (file_state c).now.trees
    same = ∥∥₁_elim copied.seen.both (Trees-set _ _) (resumed.found.holds _)
        ∙ ap (λ (d : Database). d.trees) s.idles.settled

    lists : ListsArchive (resumed.db catalog_tree)
    lists = subst (λ (t : Trees). ListsArchive (t catalog_tree)) (sym same)
        (lists_archive ((file_state c).now.trees catalog_tree) (file_state c).now.schema
        s.idles.tables (live s.idles.is_open).0.lists)

    go : HoldsContent id own resumed.db S → S ≡ content_in (file_state c).now.trees
    go (inl none) = absurd (two_schemas lists.0
        (lists_once (resumed.db catalog_tree) no_schema (archive_schema lists.0) none.0 lists.1))
    go (inr (inl all)) = all.1 ∙ ap content_in same
    go (inr (inr (inl first))) = absurd (apart_first lists.0
        (lists_once (resumed.db catalog_tree) schema1 (archive_schema lists.0) first.0.0 lists.1))
    go (inr (inr (inr beside))) = absurd (apart_beside lists.0
        (lists_once (resumed.db catalog_tree) beside_schema
        (archive_schema lists.0) beside.0.0 lists.1))

-- and they hold its tables
pub closed_holds : {D : Type 0} {g : Ghosts D} (c : Held (FileStore D g)) (files : Files D)
    (id : List ℕ) (own : ℕ) (numbers : List ℕ) (tick : ℤ)
    → (HasCleanDisk (file_state c) → IsIntact id own numbers tick (file_state c))
    → IsLive (file_state c) → IsCopied c files
    → ∥ ((db : Trees) × HoldsDatabase (image_of g files) db
    × HoldsContent id own db (content_in (file_state c).now.trees)) ∥₁
closed_holds c files id own numbers tick stands live copied =
    let s = stands copied.was_clean in
    let same : (file_state c).now.trees ≡ (file_state c).committed.trees =
    sym (ap (λ (d : Database). d.trees) s.idles.settled) in
    let lists = subst (λ (t : Trees). ListsArchive (t catalog_tree)) same
    (lists_archive ((file_state c).now.trees catalog_tree) (file_state c).now.schema
    s.idles.tables (live s.idles.is_open).0.lists) in
    ∥∥₁_map copied.seen.both (λ held. (
      (file_state c).committed.trees,
      held,
      inr (inl (
        (lists, subst (IsStored id own) same s.stored, subst AreKept same s.kept),
        ap content_in same,
      )),
    ))

-- the files that a store gave back hold what a crash could leave
pub left_holds : {D : Type 0} {g : Ghosts D} (was : Held (FileStore D g)) (it : FileStore D g)
    (files : Files D) → SeenMayStay g → IsQuiet view faults recovers is_shielded was.store it
    → (IsClean (view it) → IsTrue (view it).is_numbered)
    → (IsClean (view it) → AreDatabases (recovers it)) → (files.log, files.db) ≡ store.files it
    → IsTrue (view it).is_clean
    → ∥ ((db : Trees) × (file_state was).may_leave db × HoldsDatabase (image_of g files) db) ∥₁
left_holds {D} {g} was it files stays quiet numbered sound same clean =
    let no = no_doubt (view it).is_clean clean in
    let left = image_of g files in
    let may : (state it).may_leave left =
    subst (λ (x : D × D). (state it).may_leave (seen_image g x.0 x.1)) (sym same)
    (seen_may_be_left it.pool stays clean) in
    ∥∥₁_map (opens_again it (numbered no) (sound no) left may)
    (λ found. (found.0, quiet.outcomes _ found.1, found.2))

-- and whatever is opened of them is that
pub resumes_among : (image : Image) (MayLeave : Trees → Type 0)
    → ∥ ((db : Trees) × MayLeave db × HoldsDatabase image db) ∥₁ → ResumesAmong image MayLeave
resumes_among image MayLeave holds id own R resumed =
    ∥∥₁_map holds (λ found. (
      resumed.db,
      subst MayLeave (sym (resumed.found.holds found.0 found.2)) found.1,
      resumed.tells,
    ))

-- of an archive that is a store of its own
pub left_store : (image : Image) (MayLeave : Trees → Type 0) (id : List ℕ) (own : ℕ)
    → ∥ ((db : Trees) × MayLeave db × HoldsDatabase image db) ∥₁
    → ((db : Trees) → MayLeave db → IsStoreOf id own db)
    → ∥ ((db : Trees) × MayLeave db × HoldsDatabase image db × IsStoreOf id own db) ∥₁
left_store image MayLeave id own holds stores =
    ∥∥₁_map holds (λ found. (found.0, found.1, found.2, stores found.0 found.1))

-- ---- an opening that was refused

clean_left : {D : Type 0} {g : Ghosts D} (rest : Leftover D g)
    → AreClean g (files_left rest).0 (files_left rest).1 → IsCleanLeft rest
unfolding pool.state pool.files
clean_left (left.Files files) clean = clean
clean_left (left.Unopened it) clean = clean
clean_left (left.Store it) clean = clean

-- by the engine
pub engine_left : {D : Type 0} {g : Ghosts D} (files now : Files D) (rest : Leftover D g)
    → (now.log, now.db) ≡ files_left rest → (IsCleanLeft rest → LeavesFiles files rest)
    → AreClean g now.log now.db → EngineLeaves g files now
engine_left {D} {g} files now rest same leaves clean =
    (rest, same, leaves (clean_left rest (subst (λ (x : D × D). AreClean g x.0 x.1) same clean)))

-- by the archive
pub archive_left : {D : Type 0} {g : Ghosts D} (image : Image) (files : Files D) (id : List ℕ)
    (own : ℕ) (was : Held (FileStore D g)) (new : State) → SeenMayStay g → Opens (file_state was)
    → IsLive (file_state was) → FindsIn image (file_state was)
    → Survives (file_state was) new (IsBegunIn id own (file_state was).now) → HasCleanDisk new
    → ∥ ((db : Trees) × new.may_leave db × HoldsDatabase (image_of g files) db) ∥₁
    → KeepsFound image id own (image_of g files)
archive_left {D} {g} image files id own was new stays opens live found survives clean holds = (
  old,
  record { holds = found.holds; reads = found.reads },
  ∥∥₁_map holds (λ left. (left.0, left.2, by left.0 (survives.crash clean left.0 left.1))),
)
  where
    old : Trees
    old = (file_state was).committed.trees

    trees : (file_state was).now.trees ≡ old
    trees = ap (λ (d : Database). d.trees) opens.clean

    by : (db : Trees) → (file_state was).may_leave db ⊎ IsBegunIn id own (file_state was).now db
        → IsLeftOf id own old db
    by db (inl same) = inl (settled_at was.store stays db opens.is_open same)
    by db (inr (inl (inl made))) =
        inr (inl (
          subst (Lists (old catalog_tree)) made.0 (found_lists (file_state was) opens live),
          made.1,
        ))
    by db (inr (inl (inr made))) =
        inr (inr (inl (
          (
            subst (Lists (old catalog_tree)) made.0
                (found_lists (file_state was) opens live),
            subst (IsStored1 id own) trees made.1,
          ),
          subst (λ t. IsRenewed id (pos own) (cells1 t) db) trees made.2,
        )))
    by db (inr (inr cleared)) = inr (inr
        (inr (
          subst (Lists (old catalog_tree)) cleared.0 (found_lists (file_state was) opens live),
          subst AreBare trees cleared.1,
          subst (λ t. IsCleared t db) trees cleared.3,
        )))

-- files that held a database with tables hold it still, save where that was a store of format 1, or
-- had empty tables of that
pub still_held : (image left : Image) (id : List ℕ) (own : ℕ) → KeepsFound image id own left
    → (db : Trees) → HoldsDatabase image db → ¬ Lists (db catalog_tree) no_schema
    → ¬ IsStoreOf1 id own db → ¬ (Lists (db catalog_tree) beside_schema × AreBare db)
    → ∥ HoldsDatabase left db ∥₁
still_held image left id own (old, found, holds) db held some later bare =
    ∥∥₁_map holds (λ it. by it.0 it.1 it.2)
  where
    is : old ≡ db
    is = found.holds db held

    by : (now : Trees) → HoldsDatabase left now → IsLeftOf id own old now → HoldsDatabase left db
    by now held (inl same) = subst (HoldsDatabase left) (same ∙ is) held
    by now held (inr (inl new)) = absurd (some
        (subst (λ (t : Trees). Lists (t catalog_tree) no_schema) is new.0))
    by now held (inr (inr (inl made))) = absurd (later (subst (IsStoreOf1 id own) is made.0))
    by now held (inr (inr (inr cleared))) =
        absurd (bare (subst (λ (t : Trees). Lists (t catalog_tree) beside_schema × AreBare t) is
        (cleared.0, cleared.1)))

-- and that one holds what it held, or the tables of an archive with the same records
pub still_renewed : (image left : Image) (id : List ℕ) (own : ℕ) → KeepsFound image id own left
    → (db : Trees) → HoldsDatabase image db → IsStoreOf1 id own db
    → ∥ ((now : Trees) × HoldsDatabase left now × ((now ≡ db)
    ⊎ IsRenewed id (pos own) (cells1 db) now)) ∥₁
still_renewed image left id own (old, found, holds) db held first =
    ∥∥₁_map holds (λ it. (it.0, it.1, by it.0 it.2))
  where
    is : old ≡ db
    is = found.holds db held

    by : (now : Trees) → IsLeftOf id own old now
        → (now ≡ db) ⊎ IsRenewed id (pos own) (cells1 db) now
    by now (inl same) = inl (same ∙ is)
    by now (inr (inl new)) = absurd (no_first
        (lists_once (db catalog_tree) no_schema schema1
        (subst (λ (t : Trees). Lists (t catalog_tree) no_schema) is new.0) first.0))
    by now (inr (inr (inl made))) =
        inr (subst (λ t. IsRenewed id (pos own) (cells1 t) now) is made.1)
    by now (inr (inr (inr cleared))) =
        absurd (first_beside (lists_once (db catalog_tree) beside_schema schema1
        (subst (λ (t : Trees). Lists (t catalog_tree) beside_schema) is cleared.0) first.0))

-- and one with empty tables of format 1 holds what it held, or the same without them
pub still_cleared : (image left : Image) (id : List ℕ) (own : ℕ) → KeepsFound image id own left
    → (db : Trees) → HoldsDatabase image db → Lists (db catalog_tree) beside_schema
    → ∥ ((now : Trees) × HoldsDatabase left now × ((now ≡ db) ⊎ IsCleared db now)) ∥₁
still_cleared image left id own (old, found, holds) db held beside =
    ∥∥₁_map holds (λ it. (it.0, it.1, by it.0 it.2))
  where
    is : old ≡ db
    is = found.holds db held

    by : (now : Trees) → IsLeftOf id own old now → (now ≡ db) ⊎ IsCleared db now
    by now (inl same) = inl (same ∙ is)
    by now (inr (inl new)) = absurd (no_beside
        (lists_once (db catalog_tree) no_schema beside_schema
        (subst (λ (t : Trees). Lists (t catalog_tree) no_schema) is new.0) beside))
    by now (inr (inr (inl made))) =
        absurd (first_beside (lists_once (db catalog_tree) beside_schema schema1 beside
        (subst (λ (t : Trees). Lists (t catalog_tree) schema1) is made.0.0)))
    by now (inr (inr (inr cleared))) = inr (subst (λ t. IsCleared t now) is cleared.2)

pub still_resumed : (image left : Image) (id : List ℕ) (own : ℕ) → KeepsFound image id own left
    → (other : List ℕ) (number : ℕ) (R : Content) → Resumes left other number R
    → ∥ Resumes image other number R ∥₁
still_resumed image left id own (old, found, holds) other number R resumed =
    ∥∥₁_map holds (λ it. let r : Resumes image other number R =
    record {
      db = old;
      found = found;
      tells =
          by it.0 it.2 (subst (λ t. HoldsContent other number t R)
          (resumed.found.holds it.0 it.1) resumed.tells);
    } in r)
  where
    -- the new tables are of the archive and replica that those of format 1 were of
    first_of : (now : Trees) → IsStoreOf1 id own old × IsRenewed id (pos own) (cells1 old) now
        → meta_cells now ≡ meta_row other number ∷ [] → IsStored1 other number old
    first_of now made meta =
        let rows : meta_row id own ∷ [] ≡ meta_row other number ∷ [] = sym made.1.meta ∙ meta in
        let ids : id ≡ other = cc in
        let owns : own ≡ number = cc in
        subst (λ i. IsStored1 i number old) ids (subst (λ n. IsStored1 id n old) owns made.0.1)

    by : (now : Trees) → IsLeftOf id own old now → HoldsContent other number now R
        → HoldsContent other number old R
    by now (inl same) tells = subst (λ t. HoldsContent other number t R) same tells
    by now (inr (inl new)) (inl none) = inl (new.0, none.1)
    by now (inr (inl new)) (inr (inl all)) = inl (new.0, all.1 ∙ nothing_in now new.1.records)
    by now (inr (inl new)) (inr (inr (inl first))) =
        absurd (apart_first false (lists_once
        (now catalog_tree) schema1 (archive_schema false) first.0.0 new.1.lists))
    by now (inr (inl new)) (inr (inr (inr beside))) =
        absurd (apart_beside false (lists_once
        (now catalog_tree) beside_schema (archive_schema false) beside.0.0 new.1.lists))
    by now (inr (inr (inl made))) (inl none) =
        absurd (two_schemas false (lists_once
        (now catalog_tree) no_schema (archive_schema false) none.0 made.1.lists))
    by now (inr (inr (inl made))) (inr (inl (store, is))) =
        inr (inr (inl (
          (made.0.0, first_of now made store.1.stands.meta),
          is
              ∙ renewed_content id own (pos own) old now made.0.1 made.1,
        )))
    by now (inr (inr (inl made))) (inr (inr (inl first))) =
        absurd (apart_first false (lists_once
        (now catalog_tree) schema1 (archive_schema false) first.0.0 made.1.lists))
    by now (inr (inr (inl made))) (inr (inr (inr beside))) =
        absurd (apart_beside false (lists_once
        (now catalog_tree) beside_schema (archive_schema false) beside.0.0 made.1.lists))
    by now (inr (inr (inr cleared))) (inl none) =
        absurd (two_schemas false (lists_once
        (now catalog_tree) no_schema (archive_schema false) none.0 cleared.2.lists))
    by now (inr (inr (inr cleared))) (inr (inl (store, is))) =
        inr (inr (inr (
          (
            cleared.0,
            cleared.1,
            stored_before other number old now cleared.2 store.1,
            kept_before old now cleared.2 store.2,
          ),
          is ∙ same_content old now cleared.2,
        )))
    by now (inr (inr (inr cleared))) (inr (inr (inl first))) =
        absurd (apart_first false (lists_once
        (now catalog_tree) schema1 (archive_schema false) first.0.0 cleared.2.lists))
    by now (inr (inr (inr cleared))) (inr (inr (inr beside))) =
        absurd (apart_beside false (lists_once
        (now catalog_tree) beside_schema (archive_schema false) beside.0.0 cleared.2.lists))
