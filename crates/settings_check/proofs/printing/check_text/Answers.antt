use Rattle.std.proofs.Common.{List, ℕ, [], ◌++◌, ap, ◌∙◌}
use Rattle.settings_check.specs.Texts.{text_of}
use Rattle.settings_check.specs.Facts.{settings_facts}
use Rattle.settings_check.specs.Warnings.{warnings}
use Rattle.settings_check.proofs.TextLemmas.{next}
use Rattle.settings_check.proofs.printing.check_text.Goals as goal

pub returns : goal.returns
returns c =
    let s = c.args.settings.now in
    next [] c.put_facts.new.out.items c.put_warnings.new.out.items (settings_facts s) (warnings s)
    (c.in_ok-put_facts.ensures
    ∙ ap (λ (t : List ℕ). t ++ text_of (settings_facts s)) c.new-text.ensures.items)
    c.in_ok-put_warnings.ensures
