use Rattle.std.proofs.Common.{◌≡◌, ◌++◌, List, subst, ◌∷◌, ◌+◌, drop, arith, ap, sym, ◌∙◌}
use Rattle.std.proofs.lemmas.List.{drop_more}
use Rattle.ua_settings.specs.declared.peers.PeerCall.{PeerCall}
use Rattle.settings_check.specs.Texts.{text_of}
use Rattle.settings_check.specs.Warnings.{repeated_warning, repeated_warnings}
use Rattle.settings_check.proofs.TextLemmas.{step, rest-whole}
use Rattle.settings_check.proofs.warnings.put_repeated.Goals as goal

pub loop-i-preserved : goal.loop-i-preserved
loop-i-preserved c =
    let peers = c.args.peers.now in
    let i = c.loop-i.i in
    let peer = c.index-peers-i.result in
    record {
      warns = step c.loop-i.out.items c.put_repeated_of.new.out.items _
          (repeated_warnings (drop i peers)) (repeated_warning peer (drop (i + 1) peers))
          (repeated_warnings (drop (i + 1) peers))
          (ap repeated_warnings (drop_more peers i peer (omega arith)
          ∙ ap (λ p. p ∷ drop (i + 1) peers) (sym c.index-peers-i.is)))
          c.loop-i.invariant.warns
          (subst (λ (l : List PeerCall). c.put_repeated_of.new.out.items
          ≡ c.loop-i.out.items ++ text_of (repeated_warning peer l))
          (rest-whole (i + 1) peers) c.in_ok-put_repeated_of.ensures);
    }
