use Rattle.std.proofs.Common.{[], take, length, get_or, ◌+◌, subst, arith}
use Rattle.std.specs.Prelude.{⊤, Err}
use Rattle.ua_binary.specs.declared.values.NodeId.{NodeId}
use Rattle.records.specs.Contents.{Content}
use Rattle.history_report.specs.Paging.{IsPut}
use Rattle.settings_check.specs.Stored.{IsVectorOf, ends_of, TellsVariable, TellsVariables, check_faults}
use Rattle.settings_check.proofs.StoredLemmas.{reads-none, reads-as, reads-both}
use Rattle.settings_check.proofs.ValueLemmas.{put-none, put-more, put-all}
use Rattle.settings_check.proofs.storing.tell_each.Goals as goal

pub loop-node-init : goal.loop-node-init
loop-node-init g c = record {
  told = reads-none (g.A.Archive.state c.args.archive.now)
      (λ (R : Content). IsVectorOf c.args.within.now R → IsPut c.args.out.now.items
      c.args.out.now.items (TellsVariables c.args.space.now R (take 0 c.args.nodes.now)))
      (λ R same. put-none (λ node. TellsVariable node (ends_of c.args.space.now R node))
      c.args.out.now.items c.args.nodes.now);
  asked = omega arith;
}

pub loop-node-preserved : goal.loop-node-preserved
loop-node-preserved g c =
    let state = g.A.Archive.state in
    let space = c.args.space.now in
    let nodes = c.args.nodes.now in
    let i = c.loop-node.node-index in
    let old = c.args.out.now.items in
    let now = c.loop-node.out.items in
    let new = c.tell_variable.new.out.items in
    record {
      told = reads-both (state c.args.archive.now) (state c.loop-node.archive)
          (state c.tell_variable.new.archive) []
          (λ (R : Content). IsVectorOf c.args.within.now R
          → IsPut old now (TellsVariables space R (take i nodes)))
          (λ (R : Content). IsVectorOf c.args.within.now R → IsPut now new
          (TellsVariable c.node-item.result (ends_of space R c.node-item.result)))
          (λ (R : Content). IsVectorOf c.args.within.now R
          → IsPut old new (TellsVariables space R (take (i + 1) nodes)))
          (λ R p q same. put-more (λ node. TellsVariable node (ends_of space R node)) old now new
          nodes i c.node-item.result (omega arith) (p same) (subst (λ (n : NodeId). IsPut now new
          (TellsVariable n (ends_of space R n))) c.node-item.is (q same)))
          c.loop-node.invariant.told c.in-Ok.ensures.answers;
      asked = omega (arith, c.loop-node.invariant.asked, c.in-Ok.ensures.asked);
    }

pub returns-in-Err-clause-answers : goal.returns-in-Err-clause-answers
returns-in-Err-clause-answers g c =
    let state = g.A.Archive.state in (
      c.in-Err.ensures.answers.0,
      reads-both (state c.args.archive.now) (state c.loop-node.archive)
          (state c.tell_variable.new.archive) (check_faults (Err c.in-Err.fault))
          (λ (R : Content). IsVectorOf c.args.within.now R → IsPut c.args.out.now.items
          c.loop-node.out.items (TellsVariables c.args.space.now R
          (take c.loop-node.node-index c.args.nodes.now)))
          (λ R. ⊤) (λ R. ⊤) (λ R p q. tt) c.loop-node.invariant.told c.in-Err.ensures.answers.1,
    )

pub returns-clause-answers : goal.returns-clause-answers
returns-clause-answers g c =
    let state = g.A.Archive.state in
    let space = c.args.space.now in
    let nodes = c.args.nodes.now in
    let i = c.loop-node.node-index in
    let old = c.args.out.now.items in
    let now = c.loop-node.out.items in
    reads-as (state c.args.archive.now) (state c.loop-node.archive) []
    (λ (R : Content). IsVectorOf c.args.within.now R
    → IsPut old now (TellsVariables space R (take i nodes)))
    (λ (R : Content). IsVectorOf c.args.within.now R
    → IsPut old now (TellsVariables space R nodes))
    (λ R p same. put-all (λ node. TellsVariable node (ends_of space R node)) old now nodes i
    (omega arith) (p same)) c.loop-node.invariant.told
