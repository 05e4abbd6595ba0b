-- What passes the tests has a spelling, and what has one passes them.
use Rattle.std.proofs.Common.{rules, ◌≡◌, true, arith}
use Rattle.std.specs.Int.{w64}
use Rattle.std.specs.Int.RustNames.{FitsSigned}
use Rattle.std.proofs.lemmas.Bool.{leb-true, le-leb}
use Rattle.stamp.specs.Limits.{IsReplica}
use Rattle.std.specs.Str.{is_utf8}
use Rattle.records.specs.Moments.{ticks_of}
use Rattle.records.specs.Spelling.{HasLimits}
use Rattle.records.proofs.Sizes.{lawful_by}
use Rattle.records.proofs.record.Record.is_lawful.Goals as goal

pub returns : goal.returns
returns c =
    let limits : HasLimits c.args.self.now = search rules in
    let fits : FitsSigned w64 (ticks_of c.args.self.now.time) = search rules in
    let utf8 : is_utf8 c.args.self.now.user ≡ true = search rules in
    let origin : IsReplica c.args.self.now.origin = search rules in
    let said = c.size-size.ensures in (
      λ t. let small = leb-true _ _ t in
          lawful_by c.args.self.now origin fits utf8 said.node_short said.node_spelled
          said.value_short said.value_spelled limits (omega (arith, said.counted, small)),
      λ l. let small = l.size in le-leb _ _ (omega (arith, said.counted, small)),
    )
