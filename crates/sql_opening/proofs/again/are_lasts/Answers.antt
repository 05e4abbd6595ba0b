use Rattle.std.proofs.Common.{◌≡◌, ◌+◌, take, map, refl, sym, ap, ◌∙◌, arith, length, ◌<◌, subst}
use Rattle.std.proofs.lemmas.Bool.{eqb-true, ltb-true}
use Rattle.stamp.specs.Numbers.{entries, number_of}
use Rattle.sql_opening.specs.Again.{last_in}
use Rattle.sql_opening.proofs.AgainLemmas.{lasts_more, lasts_none, lasts_all}
use Rattle.sql_opening.proofs.again.are_lasts.Goals.{then-number-gt0+in-Some-get, else-number-gt0}
use Rattle.sql_opening.proofs.again.are_lasts.Goals as goal

pub loop-place-init : goal.loop-place-init
loop-place-init c = (refl, omega arith, λ le. absurd (omega (arith, le)))

pub loop-place-preserved : goal.loop-place-preserved
loop-place-preserved c =
    let whole : length c.args.numbers.now ≡ 64 = c.get-number.ensures.vector.whole in
    let place : c.loop-place.place < length c.args.numbers.now =
    omega (arith, whole, c.loop-place-test.true) in
    let number : c.get-number.result ≡ number_of c.args.numbers.now (c.loop-place.place + 1) =
    c.get-number.ensures.number ∙ ap (number_of c.args.numbers.now) c.in-Some.ensures.0 in
    elim c.if-number-gt0.branch [
      | then-number-gt0+in-Some-get w ↦
          let row = w.in-Some-get.row.now in
          let looked = w.in-Some-get.ensures.lookup in
          let lt : c.loop-place.gone < length c.args.rows.now =
          ltb-true c.loop-place.gone (length c.args.rows.now) (sym looked.0) in
          let is : last_in row ≡ (
            c.loop-place.place + 1,
            number_of c.args.numbers.now (c.loop-place.place + 1),
          ) =
          w.is_last.ensures.told w.if-is_last.true ∙ ap (λ n. (c.loop-place.place + 1, n)) number in
          let so_far = lasts_more c.args.rows.now c.args.numbers.now c.loop-place.gone
          c.loop-place.place row lt place (omega (arith, number, w.if-number-gt0.true))
          (ap last_in (sym looked.1) ∙ is) c.loop-place.invariant.0 in (
            subst (λ n. map last_in (take n c.args.rows.now)
                ≡ entries (take (c.loop-place.place + 1) c.args.numbers.now))
                (sym w.gone-is) so_far,
            omega (arith, w.gone-is, lt),
            λ le. whole,
          )
      | else-number-gt0 w ↦
          let so_far = lasts_none c.args.rows.now c.args.numbers.now c.loop-place.gone
          c.loop-place.place place
          (omega (arith, sym number, w.if-number-gt0.false)) c.loop-place.invariant.0 in (
            subst (λ n. map last_in (take n c.args.rows.now)
                ≡ entries (take (c.loop-place.place + 1) c.args.numbers.now))
                (sym w.gone-is) so_far,
            omega (arith, w.gone-is, c.loop-place.invariant.1),
            λ le. whole,
          )
    ]

pub returns : goal.returns
returns c done =
    let whole = c.loop-place.invariant.2 (omega (arith, c.loop-place-test.false)) in
    lasts_all c.args.rows.now c.args.numbers.now c.loop-place.gone c.loop-place.place
    (eqb-true _ _ done) whole (c.loop-place-test.false) c.loop-place.invariant.0
