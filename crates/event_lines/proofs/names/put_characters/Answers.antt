use Rattle.std.proofs.Common.{◌++◌, flat_map, string_bytes, sym, ap, ◌∙◌, map-id}
use Rattle.std.proofs.lemmas.Iterator.{YieldsList-from_chars}
use Rattle.std.proofs.lemmas.Iterator.Consumers.{YieldsList-end}
use Rattle.event_lines.specs.Names.{character_text}
use Rattle.event_lines.proofs.names.put_characters.Goals as goal

pub returns : goal.returns
returns c =
    let end = YieldsList-end (YieldsList-from_chars c.args.name.now c.utf8.name cc) c.loop-c.yielded _ c.loop-c.yielded_by _ _ c.in-None.is c.next.ensures.steps in
    c.loop-c.invariant ∙ ap (λ l. string_bytes c.args.text.now ++ flat_map character_text l) (sym (map-id c.loop-c.yielded) ∙ end.0)
