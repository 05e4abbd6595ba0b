use Rattle.std.proofs.Common.{[], take, get_or, nat_eq, arith, ap, ◌∙◌}
use Rattle.std.proofs.Math.Path.{fun_ext}
use Rattle.std.specs.Cmp.Lexicographic.{pointwise}
use Rattle.std.specs.List.{list_any}
use Rattle.std.proofs.lemmas.Grind.{text_counts, text_groups}
use Rattle.std.proofs.lemmas.List.{take_all}
use Rattle.std.proofs.lemmas.List.Sums.{count_by-le-length}
use Rattle.ua_settings.proofs.Mapped.{turned}
use Rattle.ua_settings.proofs.judging.count.Goals as goal

pub overflow_add-counts : goal.overflow_add-counts
overflow_add-counts c =
    let text = (get_or c.args.texts.now c.loop-text.text-index
    (record { ref_ptr = (0, 0); now = [] })).now in
    let few = count_by-le-length (λ one. pointwise nat_eq text one.now)
    (take c.loop-text.text-index c.args.texts.now) in
    grind (arith, text_counts, few, c.loop-text.invariant.0 text)

pub loop-text-preserved : goal.loop-text-preserved
loop-text-preserved c = (
  λ text. grind (arith, text_counts, c.loop-text.invariant.0 text),
  λ text. grind (arith, text_groups, c.loop-text.invariant.1 text),
)

pub returns-clause-keys : goal.returns-clause-keys
returns-clause-keys c = λ text.
    c.loop-text.invariant.1 text
    ∙ ap (list_any (λ one. pointwise nat_eq text one.now))
    (take_all c.loop-text.text-index c.args.texts.now (omega (arith, c.loop-text-test.false)))
    ∙ ap (λ same. list_any same c.args.texts.now) (fun_ext (λ one. turned text one.now))
