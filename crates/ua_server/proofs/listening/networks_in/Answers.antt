use Rattle.std.proofs.Common.{◌+◌, ℕ, List, length, inr, refl, sym, take, subst}
use Rattle.std.proofs.lemmas.Option.{slice_get_read}
use Rattle.conversation.specs.Networks.{IsNetworkText, IsNoNetwork}
use Rattle.conversation.specs.declared.networks.Network.{Network}
use Rattle.ua_server.specs.Listening.{AreNetworks}
use Rattle.ua_server.proofs.FromWhere.{one-network}
use Rattle.ua_server.proofs.listening.networks_in.Goals as goal

pub returns-in_default-clause-err : goal.returns-in_default-clause-err
returns-in_default-clause-err c =
    let texts = c.args.texts.now in
    inr (
      c.loop-i.i + 1,
      refl,
      (
        c.loop-i.i,
        c.index-texts-i.result,
        refl,
        slice_get_read texts (length texts) c.loop-i.i c.index-texts-i.result refl
            c.loop-i-test.true c.index-texts-i.is,
        subst IsNoNetwork c.as_str.ensures.same c.in_default.ensures,
        (c.loop-i.networks.items, c.loop-i.invariant),
      ),
    )

pub loop-i-preserved : goal.loop-i-preserved
loop-i-preserved c =
    let texts = c.args.texts.now in
    let i = c.loop-i.i in
    subst (λ (l : List Network). AreNetworks (take (i + 1) texts) l) (sym c.in-Ok.ensures.items)
    (one-network texts i c.loop-i.networks.items c.index-texts-i.result c.in-Some.network
    (slice_get_read texts (length texts) i c.index-texts-i.result refl c.loop-i-test.true
    c.index-texts-i.is) c.loop-i.invariant
    (subst (λ (text : List ℕ). IsNetworkText text c.in-Some.network) c.as_str.ensures.same
    c.in-Some.ensures))
