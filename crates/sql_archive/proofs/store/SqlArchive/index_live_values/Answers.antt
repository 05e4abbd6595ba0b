use Rattle.std.specs.Prelude.{⊤}
use Rattle.std.proofs.Common.{subst, sym, refl}
use Rattle.archive.specs.Store.{Asks}
use Rattle.sqlite.specs.Held.{state}
use Rattle.sql_archive.specs.Kept.{Kept, Serves, store_of}
use Rattle.sql_archive.proofs.StoreLemmas.{Laws, refuses}
use Rattle.sql_archive.proofs.IndexLemmas.{serves-indexed, asks-indexed}
use Rattle.sql_archive.proofs.store.SqlArchive.index_live_values.Goals as goal

pub returns-then-self-clause-asks : goal.returns-then-self-clause-asks
returns-then-self-clause-asks g c =
    let e = c.refuse.ensures in
    refuses g.S.Store
    (record {
      settled = g.met.S.Store.settled;
      stays = g.met.S.Store.stays;
      survives = g.met.S.Store.survives;
    }) c.args.self.now c.refuse.new.self c.refuse.result _ e.was e.is
    e.conn e.number e.id e.faults e.broken e.ended e.met

pub returns-clause-asks : goal.returns-clause-asks
returns-clause-asks g c =
    let a : Kept _ = record {
      conn = c.self.inside.conn;
      id = c.self.inside.id;
      number = c.self.inside.number;
      numbers = c.self.inside.latest.numbers;
      tick = c.self.inside.latest.tick;
      faults = c.self.inside.faults;
      broken = c.self.inside.broken;
    } in
    let b : Kept _ = record {
      conn = c.index_live_values-answer.new.conn;
      id = c.self.inside.id;
      number = c.self.inside.number;
      numbers = c.self.inside.latest.numbers;
      tick = c.self.inside.latest.tick;
      faults = c.tell.new.faults;
      broken = c.tell.new.broken;
    } in
    let laws : Laws g.S.Store = record {
      settled = g.met.S.Store.settled;
      stays = g.met.S.Store.stays;
      survives = g.met.S.Store.survives;
    } in
    let made = c.index_live_values-answer.ensures in
    let answer = c.index_live_values-answer.result in
    let is : Serves g.S.Store b = serves-indexed g.S.Store laws a b answer c.self.invariant
    c.if-self.false refl refl made c.tell.ensures.broken refl refl in
    subst (λ x. Asks (store_of g.S.Store x) (store_of g.S.Store b) c.tell.result (λ _. ⊤))
    c.self.view_is
    (subst (λ x. Asks (store_of g.S.Store a) (store_of g.S.Store b) x (λ _. ⊤))
    (sym c.tell.ensures.same)
    (asks-indexed g.S.Store laws a b answer c.self.invariant c.if-self.false refl refl made
    c.tell.ensures.broken {P = λ _. ⊤} is (λ _. tt) c.tell.ensures.faults))
