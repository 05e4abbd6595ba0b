use Rattle.std.proofs.Common.{List, ℕ, map, Bor}
use Rattle.history_csv.proofs.QuotingLemmas.{row_made}
use Rattle.history_csv.proofs.quoting.row_text.Goals as goal

pub returns : goal.returns
returns c =
    row_made (map (λ (field : Bor (List ℕ)). field.now) c.args.fields.now)
    c.new-text.result.items c.put_fields.new.out.items c.put_blank.new.text.items
    c.push.new.self.items c.new-text.ensures.items c.in_ok-put_fields.ensures
    c.in_ok-put_blank.ensures c.in_ok-push.ensures.items
