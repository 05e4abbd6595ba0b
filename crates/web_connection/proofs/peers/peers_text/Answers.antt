use Rattle.std.proofs.Common.{◌++◌, List, ℕ, arith, ap, ◌∙◌, subst}
use Rattle.web_page.specs.declared.calls.LastCall.{LastCall}
use Rattle.web_page.proofs.RowLemmas.{lines-more, lines-all}
use Rattle.web_connection.specs.Status.{IsPeerJson}
use Rattle.web_connection.proofs.peers.peers_text.Goals as goal

pub loop-call-init : goal.loop-call-init
loop-call-init c = record { told = c.new-peers.ensures.items }

pub loop-call-preserved : goal.loop-call-preserved
loop-call-preserved c =
    let peer = c.in_ok-peer.peer.items in
    let now = c.loop-call.peers.items in
    record {
      told = lines-more IsPeerJson now peer c.extend_from_slice.new.self.items c.args.calls.now
          c.loop-call.call-index c.call-item.result (omega arith) c.loop-call.invariant.told
          (subst (λ (n : LastCall). IsPeerJson n peer) c.call-item.is c.in_ok-peer.ensures)
          (c.in_ok-extend_from_slice.ensures.items
          ∙ ap (λ (l : List ℕ). now ++ l) c.as_slice.ensures.value);
    }

pub returns : goal.returns
returns c = lines-all IsPeerJson c.loop-call.peers.items c.args.calls.now c.loop-call.call-index
    (omega arith) c.loop-call.invariant.told
