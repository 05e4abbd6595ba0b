use Rattle.std.proofs.Common.{◌≡◌, ◌++◌, List, ℕ, OnOk, subst}
use Rattle.history_text.specs.Times.{IsTimeText}
use Rattle.history_csv.specs.Rows.{time_of}
use Rattle.settings_check.proofs.TextLemmas.{put}
use Rattle.settings_check.proofs.ValueLemmas.{puts-words}
use Rattle.settings_check.proofs.values.put_moment.Goals as goal

pub returns : goal.returns
returns c =
    puts-words c.extend_from_slice.result c.args.out.now.items c.extend_from_slice.new.self.items
    c.in_ok-text.text.items (IsTimeText (time_of c.args.time)) c.in_ok-text.ensures
    (subst (λ (t : List ℕ). OnOk c.extend_from_slice.result (c.extend_from_slice.new.self.items
    ≡ c.args.out.now.items ++ t)) c.as_slice.ensures.value
    (put c.extend_from_slice.result c.extend_from_slice.new.self.items
    (c.args.out.now.items ++ c.as_slice.result.now) c.args.out.now.items
    c.extend_from_slice.ensures.items))
