use Rattle.std.proofs.Common.{◌≡◌, Ok, Err, true, sym, subst}
use Rattle.records.specs.Contents.{Content, finding, Adds}
use Rattle.archive.specs.declared.fault.StoreFault.{StoreFault}
use Rattle.archive.specs.declared.fault.LearnFault.TheVariants.{Store}
use Rattle.archive.specs.Store.{IsLawfulContent, Learns}
use Rattle.archive.specs.Listed.{Listed, store_of}
use Rattle.archive.proofs.Listing.{lawful_put, added, starved}
use Rattle.archive.proofs.list_archive.ListArchive.add.Goals as goal

pub invariant_of-self : goal.invariant_of-self
invariant_of-self c =
    let next = subst (λ (a : Listed). finding a.records c.args.candidate.now ≡ Adds)
    (sym c.self.view_is) c.requires.next in
    subst IsLawfulContent (sym c.in-Ok.ensures.added)
    (lawful_put _ _ c.self.invariant c.requires.lawful next)

pub returns-in-Ok : goal.returns-in-Ok
returns-in-Ok c =
    let next = subst (λ (a : Listed). finding a.records c.args.candidate.now ≡ Adds)
    (sym c.self.view_is) c.requires.next in
    let a : Listed = record {
      id = c.self.inside.id;
      number = c.self.inside.number;
      records =
          c.self.inside.records.items;
      faults = c.self.inside.faults;
    } in
    let done = added a c.args.candidate.now c.self.invariant c.requires.lawful next in
    subst (λ (x : Listed). Learns (store_of x) (store_of
    (record a { records = c.put.new.records.items })) c.args.candidate.now (Ok true))
    c.self.view_is
    (subst (λ (l : Content). Learns (store_of a)
    (store_of (record a { records = l })) c.args.candidate.now (Ok true))
    (sym c.in-Ok.ensures.added) done)

pub returns-in-Err : goal.returns-in-Err
returns-in-Err c =
    let a : Listed = record {
      id = c.self.inside.id;
      number = c.self.inside.number;
      records =
          c.self.inside.records.items;
      faults = c.self.inside.faults;
    } in
    let done = starved a c.args.candidate.now c.self.invariant in
    let count = c.saturating_add-self-inside.result in
    subst (λ (x : Listed). Learns (store_of x) (store_of
    (record a { records = c.put.new.records.items; faults = count })) c.args.candidate.now
    (Err (Store c.in-Err.fault))) c.self.view_is
    (subst (λ (l : Content). Learns (store_of a) (store_of
    (record a { records = l; faults = count })) c.args.candidate.now
    (Err (Store c.in-Err.fault))) (sym c.in-Err.ensures.kept)
    (subst (λ (f : StoreFault). Learns (store_of a)
    (store_of (record a { faults = count })) c.args.candidate.now (Err (Store f)))
    (sym c.in-Err.ensures.memory)
    (subst (λ n. Learns (store_of a) (store_of (record a { faults = n })) c.args.candidate.now
    (Err (Store _))) (sym c.saturating_add-self-inside.ensures) done)))
