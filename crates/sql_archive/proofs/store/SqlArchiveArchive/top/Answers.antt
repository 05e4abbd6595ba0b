use Rattle.std.proofs.Common.{◌≡◌, arith, w64, FitsSigned, subst, ℤ, Ok, ◌∙◌, sym, ap}
use Rattle.sqlite.specs.Held.{state}
use Rattle.std.proofs.lemmas.Int.{to_z-of_z, ints, clamps}
use Rattle.records.specs.Contents.{top}
use Rattle.sql_tables.specs.Rows.{content_in}
use Rattle.archive.specs.Store.{Asks}
use Rattle.sql_archive.specs.Kept.{Kept, store_of}
use Rattle.sql_archive.proofs.RefusedLemmas.{broken_not_refused}
use Rattle.sql_archive.proofs.StoreLemmas.{Laws, refuses, tells}
use Rattle.sql_archive.proofs.store.SqlArchiveArchive.top.Goals as goal

pub returns-then-self-clause-asks : goal.returns-then-self-clause-asks
returns-then-self-clause-asks g c =
    let e = c.refuse.ensures in
    refuses g.S.Store
    (record {
      settled = g.met.S.Store.settled;
      stays = g.met.S.Store.stays;
      survives =
          g.met.S.Store.survives;
    }) c.args.self.now c.refuse.new.self c.refuse.result _ e.was e.is
    e.conn e.number e.id e.faults e.broken e.ended e.met

pub returns-clause-asks : goal.returns-clause-asks
returns-clause-asks g c =
    let a : Kept _ = record {
      conn = c.self.inside.conn;
      id = c.self.inside.id;
      number =
          c.self.inside.number;
      numbers = c.self.inside.latest.numbers;
      tick =
          c.self.inside.latest.tick;
      faults = c.self.inside.faults;
      broken = c.self.inside.broken;
    } in
    let IsAnswer : Kept _ → ℤ → Type 0 =
    λ x v. v ≡ top (content_in (state g.S.Store x.conn).now.trees) in
    let laws : Laws g.S.Store = record {
      settled = g.met.S.Store.settled;
      stays =
          g.met.S.Store.stays;
      survives = g.met.S.Store.survives;
    } in
    let fits : FitsSigned w64 c.self.inside.latest.tick = omega (arith, ints, clamps) in
    rw (to_z-of_z w64 c.self.inside.latest.tick fits)
    (subst (λ x. Asks (store_of g.S.Store x) (store_of g.S.Store x) (Ok c.self.inside.latest.tick)
    (IsAnswer x)) c.self.view_is
    (tells g.S.Store laws a c.self.inside.latest.tick (IsAnswer a) c.self.invariant c.if-self.false
    (λ clean all. all.remembered.newest)))

pub returns-then-self-clause-refused : goal.returns-then-self-clause-refused
returns-then-self-clause-refused g c clean refused =
    let used = sym (ap (λ (k : Kept _). k.broken) c.self.view_is) ∙ c.if-self.true in
    absurd (broken_not_refused c.refuse.result (c.refuse.ensures.ended used) refused)
