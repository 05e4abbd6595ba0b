use Rattle.std.proofs.Common.{◌∙◌, ℕ, List, ap, subst, option_copied}
use Rattle.std.specs.Prelude.{IfOk}
use Rattle.std.specs.Int.{w64}
use Rattle.std.proofs.lemmas.Int.{to_z-of_z}
use Rattle.uuid.specs.Text.{hyphenated_text, lower}
use Rattle.event_lines.specs.Lines.{IsEventLine}
use Rattle.ua_server.proofs.Begun.{begun}
use Rattle.ua_server.proofs.starting.begin_line.Goals as goal

pub returns : goal.returns
returns c =
    let P : List ℕ → Type 0 = λ event. IfOk c.start_line.result (λ line.
    IsEventLine c.args.at event line.items) in
    let id =
    c.encode_lower.ensures.text
    ∙ ap (λ (u : List ℕ). hyphenated_text lower u) (c.hyphenated.ensures ∙ c.archive.ensures) in
    subst P
    (begun c.args.settings.now c.encode_lower.result.now c.get.result c.listen.result.now
    (option_copied c.peers_at.result) (option_copied c.browsers_at.result) c.args.records id
    (c.get.ensures.same ∙ c.replica.ensures) c.listen.ensures c.peers_at.ensures
    c.browsers_at.ensures)
    (rw (to_z-of_z w64 c.args.at c.ranges.at) at c.start_line.ensures)
