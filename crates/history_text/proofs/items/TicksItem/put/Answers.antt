use Rattle.std.proofs.Common.{ap, ok_or, subst, sym, ◌∙◌}
use Rattle.std.specs.Str.{IsAscii}
use Rattle.std.proofs.lemmas.Result.{on_ok_weaker}
use Rattle.history_text.specs.Arrays.{or_fault}
use Rattle.ua_variant.specs.declared.value.Scalar.TheVariants.{DateTime}
use Rattle.history_text.specs.Times.{IsTimeText}
use Rattle.history_text.specs.Values.{ticks_in}
use Rattle.history_text.specs.declared.fault.TextFault.TheVariants.{NoTime}
use Rattle.history_text.proofs.ItemsLemmas.{puts_string}
use Rattle.history_text.proofs.items.TicksItem.put.Goals as goal

pub put_ascii-requires : goal.put_ascii-requires
put_ascii-requires c =
    subst IsAscii (sym c.as_slice.ensures.value) c.in_ok-text.ensures.ascii

pub returns-clause-put : goal.returns-clause-put
returns-clause-put c =
    let text = c.as_slice.result.now in
    on_ok_weaker c.put_ascii.result
    (puts_string (or_fault NoTime ticks_in) c.args.out.now c.put_ascii.new.out
    (DateTime c.args.self.now) text c.args.self.now (λ numeric spelled. numeric)
    (subst (IsTimeText (record { ticks = c.args.self.now.0; pico = 0 }))
    (sym c.as_slice.ensures.value) c.in_ok-text.ensures.written)
    (ap (λ o. ok_or o NoTime)
    (ap ticks_in c.as_slice.ensures.value ∙ c.in_ok-text.ensures.read))) c.put_ascii.ensures.put
