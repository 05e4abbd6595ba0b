use Rattle.std.proofs.Common.{arith, ap, ◌∙◌}
use Rattle.web_page.proofs.CallLemmas.{uncalled-more}
use Rattle.web_page.proofs.calls.LastCalls.new.Goals as goal

pub loop-peer-preserved : goal.loop-peer-preserved
loop-peer-preserved c = record {
  made = uncalled-more c.args.peers.now c.loop-peer.peer-index c.peer-item.result
      c.loop-peer.calls.items c.push.new.self.items c.in_ok-try_clone.field-0 (omega arith)
      c.loop-peer.invariant.made (c.in_ok-try_clone.ensures ∙ ap (λ p. p.address) c.peer-item.is)
      c.in_ok-push.ensures.items;
}
