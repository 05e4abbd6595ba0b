use Rattle.std.proofs.Common.{subst, ap, ◌∙◌, refl}
use Rattle.sql_archive.specs.Kept.{Kept, Serves, store_of}
use Rattle.archive.specs.Store.{Learns}
use Rattle.sql_tables.specs.Learning.{flat}
use Rattle.sql_archive.proofs.StoreLemmas.{Laws, refuses-learn, learns, serves-learned}
use Rattle.sql_archive.proofs.store.SqlArchiveArchive.learn.Goals as goal

pub returns-then-self-clause-learns : goal.returns-then-self-clause-learns
returns-then-self-clause-learns g c =
    let e = c.refuse.ensures in
    refuses-learn g.S.Store (record {
      settled = g.met.S.Store.settled;
      stays = g.met.S.Store.stays;
      survives =
          g.met.S.Store.survives;
    }) c.args.self.now c.refuse.new.self c.refuse.result _ e.was e.is
    e.conn e.number e.id e.faults e.broken e.ended e.met

pub invariant_of-self : goal.invariant_of-self
invariant_of-self g c =
    let a : Kept _ = record {
      conn = c.self.inside.conn;
      id = c.self.inside.id;
      number =
          c.self.inside.number;
      numbers = c.self.inside.latest.numbers;
      tick =
          c.self.inside.latest.tick;
      faults = c.self.inside.faults;
      broken = c.self.inside.broken;
    } in
    let b : Kept _ = record {
      conn = c.learn_in-answer.new.conn;
      id = c.self.inside.id;
      number =
          c.self.inside.number;
      numbers = c.latest_after-self-inside.result.numbers;
      tick =
          c.latest_after-self-inside.result.tick;
      faults = c.tell.new.faults;
      broken =
          c.tell.new.broken;
    } in
    let laws : Laws g.S.Store = record {
      settled = g.met.S.Store.settled;
      stays =
          g.met.S.Store.stays;
      survives = g.met.S.Store.survives;
    } in
    serves-learned g.S.Store laws a b c.args.candidate.now c.learn_in-answer.result c.self.invariant
    c.if-self.false refl refl c.latest_after-self-inside.ensures
    c.learn_in-answer.ensures.learned c.tell.ensures.broken

pub returns-clause-learns : goal.returns-clause-learns
returns-clause-learns g c =
    let a : Kept _ = record {
      conn = c.self.inside.conn;
      id = c.self.inside.id;
      number =
          c.self.inside.number;
      numbers = c.self.inside.latest.numbers;
      tick =
          c.self.inside.latest.tick;
      faults = c.self.inside.faults;
      broken = c.self.inside.broken;
    } in
    let b : Kept _ = record {
      conn = c.learn_in-answer.new.conn;
      id = c.self.inside.id;
      number =
          c.self.inside.number;
      numbers = c.latest_after-self-inside.result.numbers;
      tick =
          c.latest_after-self-inside.result.tick;
      faults = c.tell.new.faults;
      broken =
          c.tell.new.broken;
    } in
    let laws : Laws g.S.Store = record {
      settled = g.met.S.Store.settled;
      stays =
          g.met.S.Store.stays;
      survives = g.met.S.Store.survives;
    } in
    let is : Serves g.S.Store b = serves-learned g.S.Store laws a b c.args.candidate.now
    c.learn_in-answer.result c.self.invariant c.if-self.false refl refl
    c.latest_after-self-inside.ensures c.learn_in-answer.ensures.learned c.tell.ensures.broken
    in
    subst (λ x. Learns (store_of g.S.Store x)
    (store_of g.S.Store b) c.args.candidate.now c.flat.result) c.self.view_is
    (learns g.S.Store laws a b c.args.candidate.now c.learn_in-answer.result c.self.invariant is
    c.if-self.false c.learn_in-answer.ensures.learned refl refl c.tell.ensures.faults
    c.tell.ensures.broken
    c.flat.result (c.flat.ensures ∙ ap flat c.tell.ensures.same) c.learn_in-answer.ensures.own)
