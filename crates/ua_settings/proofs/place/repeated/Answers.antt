use Rattle.std.proofs.Common.{◌+◌, map, ap, sym, rules}
use Rattle.std.proofs.lemmas.List.{get_or_default}
use Rattle.ua_settings.proofs.Mapped.{text_at_ref, repeated_here, repeated_on}
use Rattle.ua_settings.proofs.place.repeated.Goals as goal

pub returns-then-stands_before : goal.returns-then-stands_before
returns-then-stands_before c =
    repeated_here (map (λ id. id.now) c.args.others.now) c.args.ids.now c.loop-i.i _ _
    (c.loop-i.i + 1) _ (search rules)
    c.loop-i.invariant c.stands_before.ensures c.if-stands_before.true
    (λ d. ap text_at_ref (sym (get_or_default _ c.loop-i.i _ d (search rules))))

pub loop-i-preserved : goal.loop-i-preserved
loop-i-preserved c =
    repeated_on (map (λ id. id.now) c.args.others.now) c.args.ids.now c.loop-i.i _ _
    (c.loop-i.i + 1) _ (search rules)
    c.loop-i.invariant c.stands_before.ensures c.if-stands_before.false
    (λ d. ap text_at_ref (sym (get_or_default _ c.loop-i.i _ d (search rules))))
