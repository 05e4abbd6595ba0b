use Rattle.std.proofs.Common.{◌≡◌, ℕ, List, sym, subst, ap, ◌∙◌}
use Rattle.std.specs.Prelude.{OnErr}
use Rattle.counted_io.specs.Bytes.{AppendsPart}
use Rattle.ua_server.specs.Telling.{fault_text, numbered, told_line}
use Rattle.ua_server.proofs.TellingParts.{text-without, text-with}
use Rattle.ua_server.proofs.program.tell_text.Goals as goal

pub returns-in-None-clause-part : goal.returns-in-None-clause-part
returns-in-None-clause-part g c =
    let fault = c.args.fault.now in
    let old = g.W.Write.contents c.args.errors.now.inner in
    let new = g.W.Write.contents c.tell.new.errors.inner in
    let P : List ℕ → Type 0 = λ text. OnErr c.tell.result (AppendsPart old new (told_line text)) in
    let same : c.as_bytes.result.now ≡ fault_text fault =
    c.as_bytes.ensures.value ∙ (c.words.ensures ∙ sym (text-without fault (sym c.in-None.ensures)))
    in
    subst P same c.tell.ensures.part

pub returns-in-Some-clause-part : goal.returns-in-Some-clause-part
returns-in-Some-clause-part g c =
    let fault = c.args.fault.now in
    let old = g.W.Write.contents c.args.errors.now.inner in
    let new = g.W.Write.contents c.tell-in-Some.new.errors.inner in
    let P : List ℕ → Type 0 = λ text.
    OnErr c.tell-in-Some.result (AppendsPart old new (told_line text)) in
    let same : c.as_bytes-in-Some.result.now ≡ fault_text fault =
    c.as_bytes-in-Some.ensures.value ∙ (c.as_str.ensures.value
    ∙ (c.numbered.ensures ∙ (ap (λ (w : List ℕ). numbered w c.in-Some.number)
    c.words-in-Some.ensures
    ∙ sym (text-with fault c.in-Some.number (sym c.in-Some.ensures))))) in
    subst P same c.tell-in-Some.ensures.part
