use Rattle.std.proofs.Common.{◌≡◌, ◌∙◌, ap, sym, subst, cond, false, true, arith, to_z, of_z, w64}
use Rattle.std.specs.Ordering.{int_eq}
use Rattle.std.proofs.lemmas.Int.{ints}
use Rattle.records.specs.Moments.{moment}
use Rattle.archive.specs.Reading.{outside_of}
use Rattle.stamp.specs.Numbers.{number_of}
use Rattle.records.specs.Contents.{cut}
use Rattle.hist_read.specs.Asking.{origin_time, end_time, direction}
use Rattle.hist_read.specs.Reads.{nearest_from, last_within}
use Rattle.hist_read.proofs.Askings.{asked_so}
use Rattle.hist_read.proofs.bounds.far_value.Goals as goal

pub returns-then-eq-clause-asks : goal.returns-then-eq-clause-asks
returns-then-eq-clause-asks g c =
    let R = cut (g.A.Archive.state c.args.archive.now).content (number_of c.args.within.now) in
    let node = c.args.node.now in
    let q = c.args.details.now in
    let ended : c.at-end.result ≡ end_time q = omega (arith, ints, c.at-end.ensures) in
    let test : int_eq (origin_time q) (end_time q) ≡ true =
    subst (λ x. int_eq x (end_time q) ≡ true) c.origin.ensures
    (subst (λ x. int_eq c.origin.result x ≡ true) ended (sym c.eq.ensures ∙ c.if-eq.true)) in
    let final : moment (to_z w64 (of_z w64 q.end_time.0)) 9999 ≡ last_within (end_time q) =
    omega (arith, ints) in
    asked_so _ _ c.next_outside.result _ _ c.next_outside.ensures.asks (λ h lawful is.
    is
    ∙ (ap (λ t. outside_of R node t c.direction-onward.result) final
    ∙ (ap (λ d. outside_of R node (last_within (end_time q)) d) c.direction-onward.ensures
    ∙ sym (ap (λ b. cond b (outside_of R node (last_within (end_time q)) (direction q))
    (nearest_from R node (direction q) (end_time q))) test))))

pub returns-clause-asks : goal.returns-clause-asks
returns-clause-asks g c =
    let R = cut (g.A.Archive.state c.args.archive.now).content (number_of c.args.within.now) in
    let node = c.args.node.now in
    let q = c.args.details.now in
    let ended : c.at-end.result ≡ end_time q = omega (arith, ints, c.at-end.ensures) in
    let test : int_eq (origin_time q) (end_time q) ≡ false =
    subst (λ x. int_eq x (end_time q) ≡ false) c.origin.ensures
    (subst (λ x. int_eq c.origin.result x ≡ false) ended (sym c.eq.ensures ∙ c.if-eq.false)) in
    asked_so _ _ c.nearest_from.result _ _ c.nearest_from.ensures.asks (λ h lawful is.
    is
    ∙ (ap (λ d. nearest_from R node d c.at-end.result) c.direction-onward.ensures
    ∙ (ap (λ t. nearest_from R node (direction q) t) ended
    ∙ sym (ap (λ b. cond b (outside_of R node (last_within (end_time q)) (direction q))
    (nearest_from R node (direction q) (end_time q))) test))))
