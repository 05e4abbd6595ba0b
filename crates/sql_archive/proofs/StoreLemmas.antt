-- An archive in a database meets the contract of archives.
use Rattle.std.proofs.Common.{◌≡◌, ◌⊎◌, inl, inr, ℕ, is_gt, ◌||◌, List, Bool, true, false, Option, Some, None, IfSome, Result, Ok, Err, IfErr, IsTrue, refl, sym, ap, ◌∙◌, subst, arith, [], ◌∷◌, map, option_to_list}
use Rattle.std.proofs.lemmas.Bool.{true≢false}
use Rattle.std.proofs.lemmas.Option.{none-some}
use Rattle.std.proofs.Math.Logic.{∥∥₁_elim}
use Rattle.sqlite_trees.specs.declared.store.Store.{Ghosts}
use Rattle.sqlite_trees.specs.Tree.{Trees}
use Rattle.sqlite_trees.specs.Objects.{catalog_tree}
use Rattle.sql_schema.proofs.StandingLemmas.{lists_archive}
use Rattle.sqlite_trees.specs.View.{IsClean}
use Rattle.sqlite.specs.Held.{state}
use Rattle.sqlite.specs.Effect.{Database}
use Rattle.sqlite.specs.State.{State, HasCleanDisk, Survives, IsLive}
use Rattle.records.specs.Contents.{Content, Adds, finding, put}
use Rattle.records.specs.declared.record.Record.{Record}
use Rattle.archive.specs.declared.fault.LearnFault.{LearnFault}
use Rattle.archive.specs.declared.fault.LearnFault.TheVariants as refused
use Rattle.sql_tables.specs.Learning.{Learned, Follows, IsCommitOf, flat, IsOwn, was_added}
use Rattle.archive.specs.declared.fault.StoreFault.{StoreFault}
use Rattle.archive.specs.declared.fault.StoreFault.TheVariants.{Broken}
use Rattle.archive.specs.Store.{IsLawfulContent, IsQuiescent, IsOfOpening, failed_by, is_break, AfterCall, fault_in, Asks, Learns}
use Rattle.archive.specs.Listed.{is_broken, failures}
use Rattle.std.specs.List.{list_any, AllByRecursion}
use Rattle.std.proofs.Math.Bool.{or-false}
use Rattle.std.proofs.Common.{ℤ, max, cond, unwrap_or, ◌<◌, ◌+◌, length, take, get_or}
use Rattle.archive.proofs.ListLemmas.{vec_more, top_more}
use Rattle.std.specs.Int.{int_max}
use Rattle.std.proofs.lemmas.Int.{ints, clamps}
use Rattle.records.specs.Records.{name_cmp}
use Rattle.archive.specs.Store.{answer_to}
use Rattle.sql_tables.specs.Learning.{is_added}
use Rattle.sql_tables.proofs.LearnLemmas.{kept_by, adds_by}
use Rattle.records.specs.Contents.{vec, top, learned}
use Rattle.records.proofs.ContentsParts.{number_from, after_finding}
use Rattle.records.proofs.ChangeLemmas.{top_put}
use Rattle.sql_tables.specs.Rows.{content_in, IsStored, IsStoreOf, meta_columns}
use Rattle.sql_tables.specs.Derived.{AreKept}
use Rattle.sql_tables.specs.State.{KeepsState, LeavesUnchangedOr}
use Rattle.sql_archive.specs.Kept.{Kept, IsIntact, Serves, LeavesStores, store_of}
use Rattle.sql_opening.specs.Latest.{Remembers, Raises}
use Rattle.sql_tables.proofs.AskLemmas.{survives_itself, asked_nothing}
use Rattle.sql_tables.proofs.RowLemmas.{content_is}

-- the laws of stores that are used: while it is open, a crash leaves the last commit and nothing
-- else; and it always leaves something
pub record Laws {S : Type 0} (g : Ghosts S) : Type 0 where
  pub settled : (s : S) (db : Trees) → IsTrue (g.view s).is_open → g.recovers s db
      → db ≡ (g.view s).committed
  pub stays : (s : S) → IsTrue (g.view s).is_open → g.recovers s (g.view s).committed
  pub survives : (s : S) → IsClean (g.view s) → ∥ ((db : Trees) × g.recovers s db) ∥₁

-- ---- what is remembered

vec_put : (r : Record) (R : Content) (o : ℕ) → vec (put r R) o ≡ max (vec R o) (number_from o r)
vec_put r R o = go R
  where
    go : (S : Content) → vec (put r S) o ≡ max (vec S o) (number_from o r)
    go [] = omega arith
    go (x ∷ S) = by (is_gt (name_cmp r x)) (go S)
      where
        by : (b : Bool) → vec (put r S) o ≡ max (vec S o) (number_from o r)
            → vec (cond b (x ∷ put r S) (r ∷ x ∷ S)) o
            ≡ max (max (number_from o x) (vec S o)) (number_from o r)
        by true more = omega (arith, more)
        by false more = omega arith

max_turned : (s t : ℤ) → int_max s t ≡ int_max t s
max_turned s t = omega (arith, ints, clamps)

-- what is remembered behind a fault is what was
remembered_as : (R : Content) (r : Record) (numbers : List ℕ) (tick : ℤ) (new_numbers : List ℕ)
    (new_tick : ℤ) → Raises r false numbers tick new_numbers new_tick → Remembers R numbers tick
    → Remembers R new_numbers new_tick
remembered_as R r numbers tick new_numbers new_tick raises m =
    record { lasts = λ o. raises.lasts o ∙ m.lasts o; newest = raises.newest ∙ m.newest }

-- and behind an answer it is what the content has then
remembered_by : (R : Content) (r : Record) (told : Result Bool LearnFault) (numbers : List ℕ)
    (tick : ℤ) (new_numbers : List ℕ) (new_tick : ℤ) (S : Content) → Remembers R numbers tick
    → Raises r (is_added told) numbers tick new_numbers new_tick
    → told ≡ answer_to (finding R r) → S ≡ unwrap_or (learned R r) R
    → Remembers S new_numbers new_tick
remembered_by R r told numbers tick new_numbers new_tick S m raises is content =
    go (is_added told) refl raises
  where
    go : (b : Bool) → is_added told ≡ b → Raises r b numbers tick new_numbers new_tick
        → Remembers S new_numbers new_tick
    go true e up =
        let adds = adds_by (finding R r) (ap is_added (sym is) ∙ e) in
        let put_it : S ≡ put r R = content ∙ ap (λ f. unwrap_or (after_finding R r f) R) adds in
        subst (λ T. Remembers T new_numbers new_tick) (sym put_it) (record {
          lasts = λ o. up.lasts o ∙ (ap (λ n. max n (number_from o r)) (m.lasts o)
              ∙ sym (vec_put r R o));
          newest = up.newest ∙ (ap (λ t. int_max t r.tick) m.newest
              ∙ (max_turned (top R) r.tick ∙ sym (top_put R r)));
        })
    go false e up =
        let stays = kept_by (finding R r) R r (ap is_added (sym is) ∙ e) in
        subst (λ T. Remembers T new_numbers new_tick) (sym (content ∙ stays))
        (remembered_as R r numbers tick new_numbers new_tick up m)

pub remembered_more : (xs : Content) (i : ℕ) (d : Record) (numbers : List ℕ) (tick : ℤ)
    (new_numbers : List ℕ) (new_tick : ℤ) → i < length xs → Remembers (take i xs) numbers tick
    → Raises (get_or xs i d) true numbers tick new_numbers new_tick
    → Remembers (take (i + 1) xs) new_numbers new_tick
remembered_more xs i d numbers tick new_numbers new_tick h m raises = record {
  lasts = λ o. raises.lasts o ∙ (ap (λ n. max n (number_from o (get_or xs i d))) (m.lasts o)
      ∙ sym (vec_more xs i d o h));
  newest = raises.newest ∙ (ap (λ t. int_max t (get_or xs i d).tick) m.newest
      ∙ sym (top_more xs i d h));
}

module _ {S : Type 0} (g : Ghosts S) (laws : Laws g) where
  -- as long as it may be used, a crash leaves its content and nothing else
  pub rests : (a : Kept S) → Serves g a → IsQuiescent (store_of g a)
  rests a serves honest used =
      let all = serves.0 used honest in
      let stored = all.stored in
      let is = content_is stored.content
      (state g a.conn).now.trees stored.lawful stored.stands.records in
      let same : (state g a.conn).committed.trees ≡ (state g a.conn).now.trees =
      ap (λ (d : Database). d.trees) all.idles.settled in
      record {
        lawful = subst IsLawfulContent (sym is) stored.lawful;
        stays = (
          (state g a.conn).committed.trees,
          laws.stays a.conn.store all.idles.is_open,
          ap content_in (sym same),
        );
        only = λ left m. m.2 ∙ ap content_in (laws.settled a.conn.store m.0 all.idles.is_open m.1
            ∙ same);
      }

  -- an archive begins over tables of its own
  pub serves-begun : (a : Kept S) (old : State) → (HasCleanDisk (state g a.conn)
      → KeepsState old (state g a.conn) × IsStored a.id a.number old.now.trees
      × AreKept old.now.trees × Remembers (content_in old.now.trees) a.numbers a.tick)
      → IsLive (state g a.conn) → Serves g a
  serves-begun a old opened live = (λ ok. stands, λ clean db m. left clean db (stands clean) m)
    where
      stands : HasCleanDisk (state g a.conn)
          → IsIntact a.id a.number a.numbers a.tick (state g a.conn)
      stands clean =
          let all = opened clean in
          let same : old.now.trees ≡ (state g a.conn).now.trees =
          sym (ap (λ (d : Database). d.trees) all.0.same) in
          record {
            idles = all.0.idles;
            stored = subst (IsStored a.id a.number) same all.1;
            kept =
                subst AreKept same all.2;
            remembered =
                subst (λ t. Remembers (content_in t) a.numbers a.tick) same all.3;
          }

      left : HasCleanDisk (state g a.conn) → (db : Trees)
          → IsIntact a.id a.number a.numbers a.tick (state g a.conn) → (state g a.conn).may_leave db
          → IsStoreOf a.id a.number db
      left clean db s m =
          let same : (state g a.conn).now.trees ≡ db =
          sym (laws.settled a.conn.store db s.idles.is_open m
          ∙ ap (λ (d : Database). d.trees) s.idles.settled) in
          subst (IsStoreOf a.id a.number) same (
            lists_archive ((state g a.conn).now.trees catalog_tree) (state g a.conn).now.schema
                s.idles.tables (live s.idles.is_open).0.lists,
            s.stored,
            s.kept,
          )

  -- a crash leaves stores behind a call that commits nothing else
  pub stores-left : (a b : Kept S) (Commits : Trees → Type 0) → Serves g a → b.id ≡ a.id
      → b.number ≡ a.number → Survives (state g a.conn) (state g b.conn) Commits
      → (HasCleanDisk (state g a.conn) → (db : Trees) → Commits db → IsStoreOf a.id a.number db)
      → LeavesStores g b
  stores-left a b Commits was id own survives commits clean db m =
      let early : HasCleanDisk (state g a.conn) = omega (arith, survives.clean, clean) in
      let it : IsStoreOf a.id a.number db =
      elim (survives.crash clean db m) [
        | inl old ↦ was.1 early db old
        | inr made ↦
            commits early db made
      ] in
      subst (λ i. IsStoreOf i b.number db) (sym id) (subst (λ n. IsStoreOf a.id n db) (sym own) it)

  -- behind Broken too an opening finds something
  pub finds_some : (a : Kept S) → HasCleanDisk (state g a.conn)
      → ((left : Content) → (store_of g a).may_hold left → ⊥) → ⊥
  finds_some a clean none = ∥∥₁_elim (laws.survives a.conn.store clean) (λ x y. absurd x)
      (λ found. none (content_in found.0) (found.0, found.1, refl))

  breaks : (x y : Bool) (fault : Option StoreFault) → y ≡ is_broken fault
      → (x ≡ true → fault ≡ Some Broken) → y ≡ (x || list_any is_break (option_to_list fault))
  breaks true y fault e ended = e ∙ ap is_broken (ended refl)
  breaks false y None e ended = e
  breaks false y (Some f) e ended = e ∙ sym (or-false (is_break f))

  pub leaves : (a b : Kept S) (fault : Option StoreFault) (Commits : Trees → Type 0) → Serves g a
      → Serves g b → b.number ≡ a.number → b.id ≡ a.id
      → Survives (state g a.conn) (state g b.conn) Commits
      → b.faults ≡ failures a.faults fault → b.broken ≡ is_broken fault
      → (a.broken ≡ true → fault ≡ Some Broken) → IfSome fault (λ f. IsOfOpening f → ⊥)
      → AfterCall (store_of g a) (store_of g b) fault
  leaves a b fault Commits was is own id survives count broken ended met = record {
    before = rests a was;
    after = rests b is;
    passes = record {
      own = own;
      id = id;
      honest = λ h. omega (arith, survives.clean, h);
      failed = counted fault count;
      broken = breaks a.broken b.broken fault broken ended;
      met = meets fault met;
      meets = λ f m. m;
    };
    ended = ended;
    some = finds_some b;
  }
    where
      counted : (o : Option StoreFault) → b.faults ≡ failures a.faults o
          → b.faults ≡ failed_by (option_to_list o) a.faults
      counted None e = e
      counted (Some f) e = e

      meets : (o : Option StoreFault) → IfSome o (λ f. IsOfOpening f → ⊥)
          → AllByRecursion (λ f. (IsOfOpening f → ⊥) × (IsOfOpening f → ⊥)) (option_to_list o)
      meets None m = tt
      meets (Some f) m = ((m, m), tt)

  -- a call that changes nothing leaves it as it was, save that it may break
  pub stands-kept-by : (a b : Kept S) → Serves g a → a.broken ≡ false → b.id ≡ a.id
      → b.number ≡ a.number → (Remembers (content_in (state g a.conn).now.trees) a.numbers a.tick
      → Remembers (content_in (state g a.conn).now.trees) b.numbers b.tick)
      → (HasCleanDisk (state g b.conn) → HasCleanDisk (state g a.conn))
      → (HasCleanDisk (state g b.conn) → b.broken ≡ false
      → KeepsState (state g a.conn) (state g b.conn))
      → b.broken ≡ false → HasCleanDisk (state g b.conn)
      → IsIntact b.id b.number b.numbers b.tick (state g b.conn)
  stands-kept-by a b was used id own remembers honest stays ok clean =
      let s : KeepsState (state g a.conn) (state g b.conn) = stays clean ok in
      let before = was.0 used (honest clean) in
      let same : (state g b.conn).now.trees ≡ (state g a.conn).now.trees =
      ap (λ (d : Database). d.trees) s.same in
      record {
        idles = s.idles;
        stored = subst (λ i. IsStored i b.number (state g b.conn).now.trees) (sym id)
            (subst (λ n. IsStored a.id n (state g b.conn).now.trees) (sym own)
            (subst (IsStored a.id a.number) (sym same) before.stored));
        kept = subst AreKept (sym same) before.kept;
        remembered = subst (λ t. Remembers (content_in t) b.numbers b.tick) (sym same)
            (remembers before.remembered);
      }

  -- a query
  pub asks : {A O : Type 0} (a b : Kept S) (answer : Result A StoreFault) (P : A → Type 0)
      → Serves g a → Serves g b → a.broken ≡ false
      → LeavesUnchangedOr O (state g a.conn) (state g b.conn) answer P
      → b.number ≡ a.number → b.id ≡ a.id → b.faults ≡ failures a.faults (fault_in answer)
      → b.broken ≡ is_broken (fault_in answer) → Asks (store_of g a) (store_of g b) answer P
  asks {A} a b answer P was is used asked own id count broken = record {
    answer = asked.answer;
    stays = record {
      content = λ h ok. ap (λ (d : Database). content_in d.trees)
          (asked.kept h (sym broken ∙ ok)).same;
      crash = λ h left m. elim (asked.crash.crash h m.0 m.1)
          [ inl old ↦ (m.0, old, m.2) | inr none ↦ absurd none ];
    };
    leaves = leaves a b (fault_in answer) (λ _. ⊥) was is own id asked.crash count broken
        (λ e. absurd (true≢false (sym e ∙ used))) (met answer asked.met);
  }
    where
      met : (r : Result A StoreFault) → IfErr r (λ f. IsOfOpening f → ⊥)
          → IfSome (fault_in r) (λ f. IsOfOpening f → ⊥)
      met (Ok v) m = tt
      met (Err f) m = m

  -- a query that asks nothing of the store
  pub tells : {A : Type 0} (a : Kept S) (v : A) (P : A → Type 0) → Serves g a → a.broken ≡ false
      → (HasCleanDisk (state g a.conn) → IsIntact a.id a.number a.numbers a.tick (state g a.conn)
      → P v) → Asks (store_of g a) (store_of g a) (Ok v) P
  tells a v P was used h = asks a a (Ok v) P was was used
      (asked_nothing (state g a.conn) v P (λ clean. (was.0 used clean).idles)
      (λ clean. h clean (was.0 used clean))) refl refl refl used

  -- a call that does nothing but refuse
  pub refuses : {A : Type 0} (a b : Kept S) (fault : StoreFault) (P : A → Type 0) → Serves g a
      → Serves g b → b.conn ≡ a.conn → b.number ≡ a.number → b.id ≡ a.id
      → b.faults ≡ failures a.faults (Some fault) → b.broken ≡ is_broken (Some fault)
      → (a.broken ≡ true → fault ≡ Broken) → (IsOfOpening fault → ⊥)
      → Asks {A = A} (store_of g a) (store_of g b) (Err fault) P
  refuses {A} a b fault P was is conn own id count broken ended met = record {
    answer = λ h. tt;
    stays = record {
      content = λ h ok. ap (λ c. content_in (state g c).now.trees) conn;
      crash = λ h left m. subst (λ c. (db : Trees) × (state g c).may_leave db
          × (left ≡ content_in db)) conn m;
    };
    leaves = leaves a b (Some fault) (λ _. ⊥) was is own id
        (subst (λ c. Survives (state g a.conn) (state g c) (λ _. ⊥)) (sym conn)
        (survives_itself (state g a.conn))) count broken (λ e. ap (λ f. Some f) (ended e)) met;
  }

  -- what a crash leaves holds the content that was there, or that with the record
  crashed : (a : Kept S) (r : Record) → a.broken ≡ false → (left : Content) (db : Trees)
      → left ≡ content_in db → (state g a.conn).may_leave db
      ⊎ IsCommitOf r (state g a.conn).now.trees db
      → (store_of g a).may_hold left ⊎ ((a.broken ≡ false)
      × (finding (store_of g a).content r ≡ Adds) × (left ≡ put r (store_of g a).content))
  crashed a r used left db e (inl old) = inl (db, old, e)
  crashed a r used left db e (inr new) = let R = content_in (state g a.conn).now.trees in
      inr (used, new.0, e ∙ new.1.content ∙ ap (λ f. unwrap_or (after_finding R r f) R) new.0)

  -- a record is learned
  pub learns : (a b : Kept S) (r : Record) (answer : Result (Result Bool LearnFault) StoreFault)
      → Serves g a → Serves g b → a.broken ≡ false
      → Learned (state g a.conn) (state g b.conn) r answer
      → b.number ≡ a.number → b.id ≡ a.id → b.faults ≡ failures a.faults (fault_in answer)
      → b.broken ≡ is_broken (fault_in answer)
      → (result : Result Bool LearnFault) → result ≡ flat answer → IsOwn answer
      → Learns (store_of g a) (store_of g b) r result
  learns a b r (Ok told) was is used learned own id count broken result e own_told =
      subst (λ x. Learns (store_of g a) (store_of g b) r x) (sym e) (record {
        answered = λ h _. ((learned.answered h).0, (learned.answered h).2.content);
        kept = λ h ok. subst (λ o. IfSome o
            (λ _. content_in (state g b.conn).now.trees ≡ content_in (state g a.conn).now.trees))
            (sym own_told) tt;
        crash = λ h left m. crashed a r used left m.0 m.2 (learned.crash.crash h m.0 m.1);
        leaves = subst (λ o. AfterCall (store_of g a) (store_of g b) o) (sym own_told)
            (leaves a b None _ was is own id learned.crash count broken
            (λ p. absurd (true≢false (sym p ∙ used))) tt);
      })
  learns a b r (Err fault) was is used learned own id count broken result e own_told =
      subst (λ x. Learns (store_of g a) (store_of g b) r x) (sym e) (record {
        answered = λ h none. absurd (none-some _ (sym none));
        kept = λ h ok. ap (λ (d : Database). content_in d.trees)
            (learned.kept h (sym broken ∙ ok)).same;
        crash = λ h left m. crashed a r used left m.0 m.2 (learned.crash.crash h m.0 m.1);
        leaves = leaves a b (Some fault) _ was is own id learned.crash count broken
            (λ p. absurd (true≢false (sym p ∙ used))) learned.met;
      })

  -- a learning that does nothing but refuse
  pub refuses-learn : (a b : Kept S) (fault : StoreFault) (r : Record) → Serves g a → Serves g b
      → b.conn ≡ a.conn → b.number ≡ a.number → b.id ≡ a.id
      → b.faults ≡ failures a.faults (Some fault) → b.broken ≡ is_broken (Some fault)
      → (a.broken ≡ true → fault ≡ Broken) → (IsOfOpening fault → ⊥)
      → Learns (store_of g a) (store_of g b) r (Err (refused.Store fault))
  refuses-learn a b fault r was is conn own id count broken ended met =
      let asks = refuses {A = Unit} a b fault
      (λ _. Unit {0}) was is conn own id count broken ended met in
      record {
        answered = λ h none. absurd (none-some _ (sym none));
        kept =
            asks.stays.content;
        crash = λ h left m. inl (asks.stays.crash h left m);
        leaves =
            asks.leaves;
      }

  -- what is learned leaves tables that stand for a lawful content
  pub serves-learned : (a b : Kept S) (r : Record)
      (answer : Result (Result Bool LearnFault) StoreFault) → Serves g a → a.broken ≡ false
      → b.id ≡ a.id → b.number ≡ a.number
      → Raises r (was_added answer) a.numbers a.tick b.numbers b.tick
      → Learned (state g a.conn) (state g b.conn) r answer → b.broken ≡ is_broken (fault_in answer)
      → Serves g b
  serves-learned a b r answer was used id own raises learned broken = (
    stands answer raises learned broken,
    stores-left a b _ was id own learned.crash (λ clean db made.
        (made.2, stored (was.0 used clean).stored made.1, made.1.kept)),
  )
    where
      -- the tables that follow those of the archive are its own
      stored : {db : Trees} → IsStored a.id a.number (state g a.conn).now.trees
          → Follows r (state g a.conn).now.trees db → IsStored a.id a.number db
      stored was next = record {
        content = next.filled.0;
        lawful = next.filled.1;
        stands =
            record {
              meta = ap (map meta_columns) next.meta ∙ was.stands.meta;
              records =
                  next.filled.2;
            };
      }

      stands : (told : Result (Result Bool LearnFault) StoreFault)
          → Raises r (was_added told) a.numbers a.tick b.numbers b.tick
          → Learned (state g a.conn) (state g b.conn) r told → b.broken ≡ is_broken (fault_in told)
          → b.broken ≡ false → HasCleanDisk (state g b.conn)
          → IsIntact b.id b.number b.numbers b.tick (state g b.conn)
      stands (Ok told) raises learned broken ok clean =
          let all = learned.answered clean in
          let before = was.0 used (omega (arith, learned.crash.clean, clean)) in
          record {
            idles = all.1.idles;
            stored = subst (λ i. IsStored i b.number (state g b.conn).now.trees) (sym id)
                (subst (λ n. IsStored a.id n (state g b.conn).now.trees) (sym own)
                (stored before.stored all.2));
            kept = all.2.kept;
            remembered = remembered_by
                (content_in (state g a.conn).now.trees) r told a.numbers a.tick b.numbers b.tick
                (content_in (state g b.conn).now.trees) before.remembered raises all.0
                all.2.content;
          }
      stands (Err fault) raises learned broken ok clean =
          stands-kept-by a b was used id own (remembered_as
          (content_in (state g a.conn).now.trees) r a.numbers a.tick b.numbers b.tick raises)
          (λ c. omega (arith, learned.crash.clean, c))
          (λ c o. learned.kept c (sym broken ∙ o)) ok clean

  pub serves-asked : {A O : Type 0} (a b : Kept S) (answer : Result A StoreFault) (P : A → Type 0)
      → Serves g a → a.broken ≡ false → b.id ≡ a.id → b.number ≡ a.number → b.numbers ≡ a.numbers
      → b.tick ≡ a.tick
      → LeavesUnchangedOr O (state g a.conn) (state g b.conn) answer P
      → b.broken ≡ is_broken (fault_in answer) → Serves g b
  serves-asked a b answer P was used id own numbers tick asked broken = (
    stands-kept-by a b was used id own (λ m.
        subst (λ n. Remembers (content_in (state g a.conn).now.trees) n b.tick) (sym numbers)
        (subst (Remembers (content_in (state g a.conn).now.trees) a.numbers) (sym tick) m))
        (λ c. omega (arith, asked.crash.clean, c)) (λ c o. asked.kept c (sym broken ∙ o)),
    stores-left a b (λ _. ⊥) was id own asked.crash (λ clean db none. absurd none),
  )
