use Rattle.ua_server.proofs.TellingParts.{numbered-text}
use Rattle.ua_server.proofs.program.numbered.Goals as goal

pub returns : goal.returns
returns c =
    numbered-text _ _ _ _ _ c.args.words.now c.format.result.now c.args.number c.new.ensures.text
    c.requires c.format.ensures.text c.format.ensures.short
    c.and_str.ensures.within c.and_str-2.ensures.within c.and_str-3.ensures.within
    c.and_str-4.ensures.within
