use Rattle.std.proofs.Common.{◌++◌, List, ℕ, arith, ap, ◌∙◌, subst}
use Rattle.web_page.specs.Calls.{IsCallRow}
use Rattle.web_page.specs.declared.calls.LastCall.{LastCall}
use Rattle.web_page.proofs.RowLemmas.{lines-more, lines-all}
use Rattle.web_page.proofs.peers.call_rows.Goals as goal

pub loop-call-init : goal.loop-call-init
loop-call-init c = record { told = c.new-rows.ensures.items }

pub loop-call-preserved : goal.loop-call-preserved
loop-call-preserved c =
    let row = c.in_ok-row.row.items in
    let now = c.loop-call.rows.items in
    record {
      told = lines-more IsCallRow now row c.extend_from_slice.new.self.items c.args.calls.now
          c.loop-call.call-index c.call-item.result (omega arith) c.loop-call.invariant.told
          (subst (λ (n : LastCall). IsCallRow n row) c.call-item.is c.in_ok-row.ensures)
          (c.in_ok-extend_from_slice.ensures.items
          ∙ ap (λ (l : List ℕ). now ++ l) c.as_slice.ensures.value);
    }

pub returns : goal.returns
returns c = lines-all IsCallRow c.loop-call.rows.items c.args.calls.now c.loop-call.call-index
    (omega arith) c.loop-call.invariant.told
