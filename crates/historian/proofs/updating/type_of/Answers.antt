use Rattle.std.proofs.Common.{◌∙◌, sym, ap, subst, IfSome}
use Rattle.std.specs.Prelude.{Option}
use Rattle.std.specs.Option.{option_map}
use Rattle.ua_binary.specs.Binary.{node_of}
use Rattle.ua_space.specs.declared.space.VariableInfo.{VariableInfo}
use Rattle.ua_space.specs.Space.{IsShortId}
use Rattle.historian.proofs.Variables.{archived_length}
use Rattle.historian.proofs.updating.type_of.Goals as goal

pub returns-in-Write-clause-short : goal.returns-in-Write-clause-short
returns-in-Write-clause-short c =
    let id = node_of c.args.node in
    let P : Option VariableInfo → Type 0 = λ o. IfSome o (λ _. IsShortId id) in
    archived_length c.args.seen.space.now id c.in-Some.variable
    (ap (option_map (λ info. info.value_type)) (sym c.in-Some.is) ∙ c.variable.ensures.known)
    (subst P c.in-Some.is c.variable.ensures.short)
