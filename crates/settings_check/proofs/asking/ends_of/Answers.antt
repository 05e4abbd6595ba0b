use Rattle.std.proofs.Common.{◌≡◌, [], ◌∷◌, ap, ◌∙◌}
use Rattle.std.specs.Prelude.{⊤, Option, slice_get}
use Rattle.ua_space.specs.Space.{value_type_at}
use Rattle.archive.specs.Reading.{in_direction, lives}
use Rattle.archive.specs.declared.reading.Direction.{Direction}
use Rattle.archive.specs.declared.reading.Direction.TheVariants.{Forward, Backward}
use Rattle.records.specs.Contents.{Content}
use Rattle.settings_check.specs.declared.asking.Seen.{Seen}
use Rattle.settings_check.specs.declared.asking.Ends.{Ends}
use Rattle.settings_check.specs.Stored.{IsVectorOf, end_of, ends_of}
use Rattle.settings_check.proofs.StoredLemmas.{reads-both, seen-is}
use Rattle.settings_check.proofs.asking.ends_of.Goals as goal

abbrev pair : Option Seen → Option Seen → Ends
pair first last = record { first = first; last = last }

pub returns-in-Err-first_value-clause-answers : goal.returns-in-Err-first_value-clause-answers
returns-in-Err-first_value-clause-answers g c =
    let state = g.A.Archive.state in
    let node = c.args.node.now in
    reads-both (state c.args.archive.now) (state c.first_value.new.archive)
    (state c.first_value-2.new.archive) (c.in-Err-first_value.fault ∷ [])
    (λ (R : Content). IsVectorOf c.args.within.now R → slice_get c.in-Ok.first.items 0
    ≡ slice_get (in_direction Forward (lives R node)) 0) (λ R. ⊤) (λ R. ⊤)
    (λ R p q. tt) c.in-Ok.ensures.answers c.in-Err-first_value.ensures.answers

pub returns-clause-answers : goal.returns-clause-answers
returns-clause-answers g c =
    let state = g.A.Archive.state in
    let node = c.args.node.now in
    let within = c.args.within.now in
    let space = c.args.space.now in
    let wanted = c.type_of-wanted.result in
    let asked = value_type_at space node in
    let first = c.first_seen.result in
    let last = c.first_seen-2.result in
    reads-both (state c.args.archive.now) (state c.first_value.new.archive)
    (state c.first_value-2.new.archive) []
    (λ (R : Content). IsVectorOf within R → slice_get c.in-Ok.first.items 0
    ≡ slice_get (in_direction Forward (lives R node)) 0)
    (λ (R : Content). IsVectorOf within R → slice_get c.in-Ok-first_value.last.items 0
    ≡ slice_get (in_direction Backward (lives R node)) 0)
    (λ (R : Content). IsVectorOf within R → pair first last ≡ ends_of space R node)
    (λ R p q same.
    ap (λ (o : Option Seen). pair o last) (seen-is R node wanted asked Forward c.in-Ok.first.items
    c.as_slice.result.now first c.first_seen.ensures c.as_slice.ensures.value
    c.type_of-wanted.ensures (p same))
    ∙ ap (λ (o : Option Seen). pair (end_of R node asked Forward) o)
    (seen-is R node wanted asked Backward c.in-Ok-first_value.last.items
    c.as_slice-2.result.now last c.first_seen-2.ensures c.as_slice-2.ensures.value
    c.type_of-wanted.ensures (q same)))
    c.in-Ok.ensures.answers c.in-Ok-first_value.ensures.answers
