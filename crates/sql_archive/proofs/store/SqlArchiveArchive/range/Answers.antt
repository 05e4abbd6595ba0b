use Rattle.std.proofs.Common.{◌≡◌, subst, sym, refl, take, Vec, ◌∙◌, ap}
use Rattle.std.specs.declared.alloc.Global.{Global}
use Rattle.sqlite.specs.Held.{state}
use Rattle.stamp.specs.Numbers.{number_of}
use Rattle.records.specs.Contents.{cut}
use Rattle.records.specs.declared.shown.Held.{Held}
use Rattle.archive.specs.Reading.{range_of}
use Rattle.sql_tables.specs.Rows.{content_in}
use Rattle.archive.specs.Store.{Asks}
use Rattle.sql_archive.specs.Kept.{Kept, Serves, store_of}
use Rattle.sql_archive.proofs.RefusedLemmas.{broken_not_refused, right_as_below}
use Rattle.sql_archive.proofs.StoreLemmas.{Laws, refuses, asks, serves-asked}
use Rattle.sql_archive.proofs.store.SqlArchiveArchive.range.Goals as goal

pub returns-then-self-clause-asks : goal.returns-then-self-clause-asks
returns-then-self-clause-asks g c =
    let e = c.refuse.ensures in
    refuses g.S.Store
    (record {
      settled = g.met.S.Store.settled;
      stays = g.met.S.Store.stays;
      survives =
          g.met.S.Store.survives;
    }) c.args.self.now c.refuse.new.self c.refuse.result _ e.was e.is
    e.conn e.number e.id e.faults e.broken e.ended e.met

pub returns-clause-asks : goal.returns-clause-asks
returns-clause-asks g c =
    let a : Kept _ = record {
      conn = c.self.inside.conn;
      id = c.self.inside.id;
      number =
          c.self.inside.number;
      numbers = c.self.inside.latest.numbers;
      tick =
          c.self.inside.latest.tick;
      faults = c.self.inside.faults;
      broken = c.self.inside.broken;
    } in
    let b : Kept _ = record {
      conn = c.range_in-answer.new.conn;
      id = c.self.inside.id;
      number =
          c.self.inside.number;
      numbers = c.self.inside.latest.numbers;
      tick =
          c.self.inside.latest.tick;
      faults = c.tell.new.faults;
      broken = c.tell.new.broken;
    } in
    let IsAnswer : Kept _ → Vec Held Global → Type 0 =
    λ x v. v.items ≡ take c.args.limit (range_of
    (cut (content_in (state g.S.Store x.conn).now.trees) (number_of c.args.within.now))
    c.args.node.now c.args.from c.args.to c.args.direction) in
    let laws : Laws g.S.Store = record {
      settled = g.met.S.Store.settled;
      stays =
          g.met.S.Store.stays;
      survives = g.met.S.Store.survives;
    } in
    let is : Serves g.S.Store b = serves-asked g.S.Store laws a b c.range_in-answer.result
    (IsAnswer a) c.self.invariant c.if-self.false refl refl refl refl c.range_in-answer.ensures
    c.tell.ensures.broken in
    subst (λ x. Asks (store_of g.S.Store x) (store_of g.S.Store b) c.tell.result (IsAnswer x))
    c.self.view_is
    (subst (λ x. Asks (store_of g.S.Store a) (store_of g.S.Store b) x (IsAnswer a))
    (sym c.tell.ensures.same)
    (asks g.S.Store laws a b c.range_in-answer.result
    (IsAnswer a) c.self.invariant is c.if-self.false c.range_in-answer.ensures refl refl
    c.tell.ensures.faults c.tell.ensures.broken))

pub returns-then-self-clause-refused : goal.returns-then-self-clause-refused
returns-then-self-clause-refused g c clean refused =
    let used = sym (ap (λ (k : Kept _). k.broken) c.self.view_is) ∙ c.if-self.true in
    absurd (broken_not_refused c.refuse.result (c.refuse.ensures.ended used) refused)

pub returns-clause-refused : goal.returns-clause-refused
returns-clause-refused g c =
    let a : Kept _ = record {
      conn = c.self.inside.conn;
      id = c.self.inside.id;
      number =
          c.self.inside.number;
      numbers = c.self.inside.latest.numbers;
      tick =
          c.self.inside.latest.tick;
      faults = c.self.inside.faults;
      broken = c.self.inside.broken;
    } in
    let b : Kept _ = record {
      conn = c.range_in-answer.new.conn;
      id = c.self.inside.id;
      number =
          c.self.inside.number;
      numbers = c.self.inside.latest.numbers;
      tick =
          c.self.inside.latest.tick;
      faults = c.tell.new.faults;
      broken = c.tell.new.broken;
    } in
    right_as_below g.S.Store _ a b c.args.self.now c.range_in-answer.result c.tell.result
    c.self.view_is c.tell.ensures.same c.range_in-answer.ensures
