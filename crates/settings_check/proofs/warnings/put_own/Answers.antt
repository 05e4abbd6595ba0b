use Rattle.std.proofs.Common.{◌∷◌, ◌+◌, drop, arith, ap, sym, ◌∙◌}
use Rattle.std.proofs.lemmas.List.{drop_more}
use Rattle.settings_check.specs.Warnings.{own_warning, own_warnings}
use Rattle.settings_check.proofs.TextLemmas.{step}
use Rattle.settings_check.proofs.warnings.put_own.Goals as goal

pub loop-peer-preserved : goal.loop-peer-preserved
loop-peer-preserved c =
    let s = c.args.settings.now in
    let peers = c.args.peers.now in
    let i = c.loop-peer.peer-index in
    let peer = c.peer-item.result in
    record {
      warns = step c.loop-peer.out.items c.put_own_of.new.out.items _
          (own_warnings s (drop i peers)) (own_warning s peer)
          (own_warnings s (drop (i + 1) peers))
          (ap (own_warnings s) (drop_more peers i peer (omega arith)
          ∙ ap (λ p. p ∷ drop (i + 1) peers) (sym c.peer-item.is)))
          c.loop-peer.invariant.warns c.in_ok-put_own_of.ensures;
    }
