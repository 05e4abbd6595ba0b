use Rattle.std.specs.Prelude.{⊤}
use Rattle.std.proofs.Common.{subst, sym, refl}
use Rattle.archive.specs.Store.{Asks}
use Rattle.sqlite.specs.Held.{state}
use Rattle.sql_tables.proofs.AskLemmas.{asked_for}
use Rattle.sql_archive.specs.Kept.{Kept, Serves, store_of}
use Rattle.sql_archive.proofs.StoreLemmas.{Laws, refuses, asks, serves-asked}
use Rattle.sql_archive.proofs.store.SqlArchiveArchive.reload.Goals as goal

pub returns-then-self-clause-asks : goal.returns-then-self-clause-asks
returns-then-self-clause-asks g c =
    let e = c.refuse.ensures in
    refuses g.S.Store
    (record {
      settled = g.met.S.Store.settled;
      stays = g.met.S.Store.stays;
      survives =
          g.met.S.Store.survives;
    }) c.args.self.now c.refuse.new.self c.refuse.result _ e.was e.is
    e.conn e.number e.id e.faults e.broken e.ended e.met

pub returns-clause-asks : goal.returns-clause-asks
returns-clause-asks g c =
    let a : Kept _ = record {
      conn = c.self.inside.conn;
      id = c.self.inside.id;
      number =
          c.self.inside.number;
      numbers = c.self.inside.latest.numbers;
      tick =
          c.self.inside.latest.tick;
      faults = c.self.inside.faults;
      broken = c.self.inside.broken;
    } in
    let b : Kept _ = record {
      conn = c.read_again-answer.new.conn;
      id = c.self.inside.id;
      number =
          c.self.inside.number;
      numbers = c.self.inside.latest.numbers;
      tick =
          c.self.inside.latest.tick;
      faults = c.tell.new.faults;
      broken = c.tell.new.broken;
    } in
    let IsAnswer : Kept _ → Unit → Type 0 = λ x v. ⊤ in
    let laws : Laws g.S.Store = record {
      settled = g.met.S.Store.settled;
      stays =
          g.met.S.Store.stays;
      survives = g.met.S.Store.survives;
    } in
    let asked = asked_for _ _ (state g.S.Store a.conn)
    (state g.S.Store b.conn) c.read_again-answer.result _ (IsAnswer a)
    (λ clean v told. tt) (λ clean own. own) c.read_again-answer.ensures in
    let is : Serves g.S.Store b = serves-asked g.S.Store laws a b c.read_again-answer.result
    (IsAnswer a) c.self.invariant c.if-self.false refl refl refl refl asked
    c.tell.ensures.broken in
    subst (λ x. Asks (store_of g.S.Store x) (store_of g.S.Store b) c.tell.result (IsAnswer x))
    c.self.view_is
    (subst (λ x. Asks (store_of g.S.Store a) (store_of g.S.Store b) x (IsAnswer a))
    (sym c.tell.ensures.same)
    (asks g.S.Store laws a b c.read_again-answer.result
    (IsAnswer a) c.self.invariant is c.if-self.false asked refl refl c.tell.ensures.faults
    c.tell.ensures.broken))
