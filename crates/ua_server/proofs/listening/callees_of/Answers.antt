use Rattle.std.proofs.Common.{◌+◌, ℕ, List, length, inr, refl, sym, take, subst}
use Rattle.std.proofs.lemmas.Option.{slice_get_read}
use Rattle.std.specs.Net.Grammar.{IsSocketText}
use Rattle.ua_server.specs.declared.listening.Callee.{Callee}
use Rattle.ua_server.specs.Listening.{AreCallees}
use Rattle.ua_server.proofs.Called.{one-callee}
use Rattle.ua_server.proofs.listening.callees_of.Goals as goal

pub returns-in_default-clause-err : goal.returns-in_default-clause-err
returns-in_default-clause-err c =
    let peers = c.args.peers.now in
    inr (
      c.loop-i.i + 1,
      refl,
      (
        c.loop-i.i,
        c.index-peers-i.result,
        refl,
        slice_get_read peers (length peers) c.loop-i.i c.index-peers-i.result refl
            c.loop-i-test.true c.index-peers-i.is,
        (λ address text. c.in_default.ensures address
            (subst (λ (text : List ℕ). IsSocketText text address)
            (sym c.as_str.ensures.same) text)),
        (c.loop-i.callees.items, c.loop-i.invariant),
      ),
    )

pub loop-i-preserved : goal.loop-i-preserved
loop-i-preserved c =
    let peers = c.args.peers.now in
    let i = c.loop-i.i in
    subst (λ (l : List Callee). AreCallees (take (i + 1) peers) l) (sym c.in-Ok.ensures.items)
    (one-callee peers i c.loop-i.callees.items c.index-peers-i.result
    (record { address = c.in-Some.address; every = c.index-peers-i.result.every })
    (slice_get_read peers (length peers) i c.index-peers-i.result refl
    c.loop-i-test.true c.index-peers-i.is) c.loop-i.invariant
    (subst (λ (text : List ℕ). IsSocketText text c.in-Some.address) c.as_str.ensures.same
    c.in-Some.ensures) refl)
