use Rattle.std.proofs.Common.{List, ℕ, ◌∙◌, subst}
use Rattle.std.proofs.KnownBytes.{Appends-nil}
use Rattle.counted_io.specs.Bytes.{AppendsPart}
use Rattle.settings_check.proofs.printing.print_check.Goals as goal

pub returns-in-Err-clause-prints : goal.returns-in-Err-clause-prints
returns-in-Err-clause-prints g c = Appends-nil (g.W.Write.contents c.args.output.now.inner)

pub returns-clause-prints : goal.returns-clause-prints
returns-clause-prints g c =
    subst (λ (t : List ℕ). AppendsPart (g.W.Write.contents c.args.output.now.inner)
    (g.W.Write.contents c.send.new.self.inner) t) (c.as_slice.ensures.value ∙ c.in-Ok.ensures)
    c.in-Err-send.ensures.part
