use Rattle.ua_settings.proofs.Mapped.{stands_then, stands_else}
use Rattle.ua_settings.proofs.place.stands_before.Goals as goal

pub returns-then-is_among : goal.returns-then-is_among
returns-then-is_among c = stands_then c.args.id.now c.args.others.now c.args.before.now
    c.is_among.result c.is_among.ensures c.if-is_among.true

pub returns-else-is_among : goal.returns-else-is_among
returns-else-is_among c =
    stands_else c.args.id.now c.args.others.now c.args.before.now c.is_among.result
    c.is_among-else-is_among.result c.is_among.ensures c.if-is_among.false
    c.is_among-else-is_among.ensures
