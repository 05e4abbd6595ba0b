use Rattle.std.proofs.Common.{◌<◌, MatchOption, sym, subst, arith}
use Rattle.conversation.specs.Networks.{IsNetworkText, IsNoNetwork}
use Rattle.conversation.proofs.Spelled.{no-length, long-length}
use Rattle.conversation.proofs.networks.Network.parse.Goals as goal

pub returns-in_err-length-in-Some : goal.returns-in_err-length-in-Some
returns-in_err-length-in-Some c =
    let split = c.in-Some.ensures.byte (omega arith) (λ w o f. f) in
    subst (λ found. MatchOption found (IsNoNetwork c.args.text.now) (IsNetworkText c.args.text.now))
    (sym c.from_residual-in_err-length-in-Some.ensures)
    (no-length c.args.text.now c.in-Some.length.now split.2 split.1 c.in_err-length-in-Some.ensures)

pub returns-else-length-width : goal.returns-else-length-width
returns-else-length-width c =
    let split = c.in-Some.ensures.byte (omega arith) (λ w o f. f) in
    long-length c.args.text.now c.in-Some.address.now c.in-Some.length.now
    c.in_ok-address-in-Some.address c.in_ok-length-in-Some.length split.2 split.0 split.1
    c.in_ok-address-in-Some.ensures c.in_ok-length-in-Some.ensures
    (subst (λ n. n < c.in_ok-length-in-Some.length) c.width-in-Some.ensures c.if-length-width.false)
