use Rattle.std.proofs.Common.{ℕ, List, subst, ap, ◌∙◌}
use Rattle.std.specs.Prelude.{OnErr}
use Rattle.counted_io.specs.Bytes.{AppendsPart}
use Rattle.ua_server.specs.Telling.{fault_text, told_line, place_line}
use Rattle.ua_server.proofs.TellingParts.{second_line, second-line}
use Rattle.counted_io.proofs.Parts.{part-first, part-after}
use Rattle.ua_server.proofs.program.tell_fault.Goals as goal

pub returns-in-Ok-clause-part : goal.returns-in-Ok-clause-part
returns-in-Ok-clause-part g c =
    let old = g.W.Write.contents c.args.errors.now.inner in
    let middle = g.W.Write.contents c.tell_text.new.errors.inner in
    let new = g.W.Write.contents c.tell_place.new.errors.inner in
    let Q : List ℕ → Type 0 = λ line. OnErr c.tell_place.result (AppendsPart middle new line) in
    part-after c.tell_place.result old middle new (told_line (fault_text c.args.fault.now))
    (second_line c.args.fault.now) c.in-Ok.ensures.ok
    (subst Q (ap place_line c.place.ensures ∙ second-line c.args.fault.now)
    c.tell_place.ensures.part)

pub returns-in-Err-clause-part : goal.returns-in-Err-clause-part
returns-in-Err-clause-part g c =
    part-first (g.W.Write.contents c.args.errors.now.inner)
    (g.W.Write.contents c.tell_text.new.errors.inner) (told_line (fault_text c.args.fault.now))
    (second_line c.args.fault.now) c.in-Err.ensures.part
