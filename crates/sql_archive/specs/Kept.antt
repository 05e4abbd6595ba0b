-- What an archive in a database keeps, and how it meets the contract of archives.
use Rattle.std.specs.Prelude.{◌≡◌, ℕ, ℤ, List, Bool, false, Result, refl}
use Rattle.std.specs.Coded.{Coded, code_by, coded×, coded_ℕ, coded_ℤ, coded_bool, coded_list}
use Rattle.sqlite.specs.Held.{Held, held_code, state}
use Rattle.sqlite.specs.State.{State, HasCleanDisk}
use Rattle.sqlite_trees.specs.declared.store.Store.{Ghosts}
use Rattle.sqlite_trees.specs.Tree.{Trees}
use Rattle.sql_opening.specs.Latest.{Remembers}
use Rattle.archive.specs.Store.{Store, IsOfOpening}
use Rattle.archive.specs.declared.fault.StoreFault.{StoreFault}
use Rattle.sql_tables.specs.Rows.{content_in, IsStored, IsStoreOf}
use Rattle.sql_tables.specs.Derived.{AreKept}
use Rattle.sql_tables.specs.State.{Idles, RefusesFor, AreWhole}

-- what an archive is made of: its connection, whose store it is, what it remembers of the records
-- there, how many faults it met, and whether it is broken
pub record Kept (S : Type 0) : Type 0 where
  pub conn : Held S
  pub id : List ℕ
  pub number : ℕ
  -- the number of each replica's last record, and the greatest tick
  pub numbers : List ℕ
  pub tick : ℤ
  pub faults : ℕ
  pub broken : Bool

abbrev pub kept_code : {S : Type 0} → Coded S → Coded (Kept S)
kept_code {S} store =
    code_by (Held S × (List ℕ × (ℕ × (List ℕ × (ℤ × (ℕ × Bool))))))
    (coded× (held_code store)
    (coded× (coded_list coded_ℕ)
    (coded× coded_ℕ
    (coded× (coded_list coded_ℕ) (coded× coded_ℤ (coded× coded_ℕ coded_bool))))))
    (λ k. (k.conn, (k.id, (k.number, (k.numbers, (k.tick, (k.faults, k.broken)))))))
    (λ p.
    record {
      conn = p.0;
      id = p.1.0;
      number = p.1.1.0;
      numbers = p.1.1.1.0;
      tick = p.1.1.1.1.0;
      faults = p.1.1.1.1.1.0;
      broken = p.1.1.1.1.1.1;
    }) (λ _. refl)

-- a connection idles; its tables stand for a lawful content, of which these are the last numbers
-- and the greatest tick
pub record IsIntact (id : List ℕ) (own : ℕ) (numbers : List ℕ) (tick : ℤ) (s : State) : Type 0 where
  pub idles : Idles s
  pub stored : IsStored id own s.now.trees
  pub kept : AreKept s.now.trees
  pub remembered : Remembers (content_in s.now.trees) numbers tick

module _ {S : Type 0} (g : Ghosts S) where
  -- whatever a crash leaves at this moment is a store of its archive and replica, also where it is
  -- broken
  abbrev pub LeavesStores : Kept S → Type 0
  LeavesStores a =
      HasCleanDisk (state g a.conn) → (db : Trees) → (state g a.conn).may_leave db
      → IsStoreOf a.id a.number db

  -- while it may be used, its tables stand for a lawful content; and a crash leaves stores of its
  -- own
  abbrev pub Serves : Kept S → Type 0
  Serves a =
      (a.broken ≡ false → HasCleanDisk (state g a.conn)
      → IsIntact a.id a.number a.numbers a.tick (state g a.conn)) × LeavesStores a

  -- its content is what its tables hold, and a crash leaves what the tables then hold
  abbrev pub store_of : Kept S → Store
  store_of a = record {
    content = content_in (state g a.conn).now.trees;
    own = a.number;
    id = a.id;
    broken = a.broken;
    failed = a.faults;
    honest = HasCleanDisk (state g a.conn);
    may_hold = λ left. (db : Trees) × (state g a.conn).may_leave db × (left ≡ content_in db);
    meets = λ fault. IsOfOpening fault → ⊥;
  }

  -- a query is refused only where SQLite may refuse, or the tables aren't whole
  abbrev pub RefusesRightly : {A : Type 0} → (old new : Kept S) → Result A StoreFault → Type 0
  RefusesRightly old new result =
      RefusesFor (AreWhole (state g old.conn).now.trees → ⊥) (state g old.conn)
      (state g new.conn) result
