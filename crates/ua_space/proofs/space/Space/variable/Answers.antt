use Rattle.std.proofs.Common.{sym, ap, ◌∙◌, Some}
use Rattle.std.specs.Option.{option_map}
use Rattle.ua_space.specs.Space.{node_of}
use Rattle.ua_space.proofs.Found.{short_found}
use Rattle.ua_space.proofs.space.Space.variable.Goals as goal

pub returns-in-Some-Variable-clause-short : goal.returns-in-Some-Variable-clause-short
returns-in-Some-Variable-clause-short c =
    let found = c.in-Some-Variable.is ∙ ap Some c.in-Some-Variable.field-0-is in
    short_found c.self.inside.layout _ c.in-Some-Variable.variable.now c.self.invariant.0.ids
    (sym (ap (option_map node_of) found) ∙ c.find.ensures)
