use Rattle.std.proofs.Common.{codes, arith}
use Rattle.ua_server.proofs.TellingParts.{between-text}
use Rattle.ua_server.proofs.log.turn_text.Goals as goal

pub returns : goal.returns
returns c =
    between-text (codes "a turn took ") (codes " ms") _ _ _ _
    c.format.result.now c.args.milliseconds (omega arith) (omega arith) c.new.ensures.text
    c.format.ensures.text c.format.ensures.short
    c.and_str.ensures.within c.and_str-2.ensures.within c.and_str-3.ensures.within
