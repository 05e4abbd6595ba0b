use Rattle.std.proofs.Common.{◌≡◌, ◌∙◌, ap, arith}
use Rattle.stamp.specs.Numbers.{number_of}
use Rattle.ua_server.specs.Starting.{records_of}
use Rattle.ua_server.proofs.starting.records_of.Goals as goal

pub returns : goal.returns
returns c =
    let all : c.loop-replicas.replicas ≡ 64 =
    omega (arith, c.loop-replicas.auto.replicas-end, c.loop-replicas-test.false) in
    c.loop-replicas.invariant ∙ ap (λ n. records_of n (number_of c.args.numbers.now)) all
