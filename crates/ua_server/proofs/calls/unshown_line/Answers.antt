use Rattle.std.proofs.Common.{codes, [], ◌∷◌, ◌++◌, ◌∙◌, ap, arith}
use Rattle.std.specs.Fmt.{decimal}
use Rattle.ua_server.proofs.TellingParts.{two-numbers}
use Rattle.ua_server.proofs.calls.unshown_line.Goals as goal

pub returns : goal.returns
returns c =
    two-numbers (codes "two records of replica ") (codes ", number ")
    (codes ", which can't be shown" ++ 10 ∷ []) _ _ _ _ _ _ c.format.result.now
    c.format-2.result.now c.args.clash.now.held.origin c.args.clash.now.held.number (omega arith)
    (omega arith) (omega arith) c.new.ensures.text
    (c.format.ensures.text ∙ ap decimal c.get.ensures.same) c.format.ensures.short
    c.format-2.ensures.text c.format-2.ensures.short c.and_str.ensures.within
    c.and_str-2.ensures.within c.and_str-3.ensures.within c.and_str-4.ensures.within
    c.and_str-5.ensures.within
