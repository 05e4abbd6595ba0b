use Rattle.std.proofs.Common.{◌∙◌, sym, ap, subst, Ok, Err, IfOk, IfSome}
use Rattle.std.specs.Prelude.{Result, Option}
use Rattle.std.specs.Option.{option_map}
use Rattle.ua_binary.specs.declared.codes.Status.{Status}
use Rattle.ua_binary.specs.Binary.{node_of}
use Rattle.ua_space.specs.declared.space.VariableInfo.{VariableInfo}
use Rattle.ua_space.specs.Space.{IsShortId}
use Rattle.historian.proofs.Variables.{archived_short}
use Rattle.historian.proofs.histories.judge_history.Goals as goal

pub returns-clause-short : goal.returns-clause-short
returns-clause-short c =
    let id = node_of c.args.item.node_id in
    let P : Option VariableInfo → Type 0 = λ o. IfSome o (λ _. IsShortId id) in
    let short = archived_short c.args.space.now id c.in-Some._variable
    (ap (option_map (λ info. info.value_type)) (sym c.in-Some.is) ∙ c.variable.ensures.known)
    (subst P c.in-Some.is c.variable.ensures.short) in
    by c.judge_value.result short
  where
    by : {P : Type 0} (r : Result (Unit {0}) Status) → P → IfOk r (λ _. P)
    by (Ok x) p = p
    by (Err e) p = tt
