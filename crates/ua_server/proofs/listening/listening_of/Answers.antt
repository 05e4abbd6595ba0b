use Rattle.std.proofs.Common.{◌≡◌, ◌∙◌, ◌⊎◌, ℕ, List, inl, inr, sym, subst}
use Rattle.std.specs.Net.Grammar.{IsSocketText}
use Rattle.ua_settings.specs.declared.peers.PeerCall.{PeerCall}
use Rattle.counted_io.specs.declared.fault.ServeFault.TheVariants.{OutOfMemory}
use Rattle.ua_server.specs.declared.program.ProgramFault.TheVariants.{Connection, PeerAddress}
use Rattle.ua_server.specs.Listening.{networks_at, IsNoNetworkAt, AreCallees, IsWrongPeer, HasNoAddress}
use Rattle.ua_server.proofs.FromWhere.{told-network}
use Rattle.ua_server.proofs.listening.listening_of.Goals as goal

pub returns-in-Err-from_of-clause-err : goal.returns-in-Err-from_of-clause-err
returns-in-Err-from_of-clause-err c =
    let settings = c.args.settings.now in
    let fault = c.in-Err-from_of.fault in
    let told : (fault ≡ Connection OutOfMemory) ⊎ IsNoNetworkAt (networks_at settings) fault =
    c.in-Err-from_of.ensures.err in
    elim told [
      | inl starved ↦ inl starved
      | inr wrong ↦ let is = told-network (networks_at settings) fault wrong in
          inr (subst (HasNoAddress settings) (sym is.1) (
            (
              c.in-Some.clients,
              subst (λ (text : List ℕ). IsSocketText text c.in-Some.clients) c.listen.ensures
                  c.in-Some.ensures,
            ),
            (c.in-Ok.peers, c.in-Ok.ensures),
            subst (IsNoNetworkAt (networks_at settings)) is.1 wrong,
          ))
    ]

pub returns-in-Err-callees_of-clause-err : goal.returns-in-Err-callees_of-clause-err
returns-in-Err-callees_of-clause-err c =
    let settings = c.args.settings.now in
    let fault = c.in-Err-callees_of.fault in
    let told : (fault ≡ Connection OutOfMemory)
    ⊎ ((number : ℕ) × (fault ≡ PeerAddress number) × IsWrongPeer c.as_slice.result.now number) =
    c.in-Err-callees_of.ensures.err in
    elim told [
      | inl starved ↦ inl starved
      | inr wrong ↦ inr (subst (HasNoAddress settings) (sym wrong.1) (
        (
          c.in-Some.clients,
          subst (λ (text : List ℕ). IsSocketText text c.in-Some.clients) c.listen.ensures
              c.in-Some.ensures,
        ),
        (c.in-Ok.peers, c.in-Ok.ensures),
        (c.in-Ok-from_of.from, c.in-Ok-from_of.ensures.ok),
        subst (λ (peers : List PeerCall). IsWrongPeer peers wrong.0)
            (c.as_slice.ensures ∙ c.peers.ensures)
            wrong.2,
      ))
    ]

pub returns-in-Err-web_of-clause-err : goal.returns-in-Err-web_of-clause-err
returns-in-Err-web_of-clause-err c =
    let settings = c.args.settings.now in
    let told = c.in-Err-web_of.ensures in
    inr (subst (HasNoAddress settings) (sym told.0) (
      (
        c.in-Some.clients,
        subst (λ (text : List ℕ). IsSocketText text c.in-Some.clients) c.listen.ensures
            c.in-Some.ensures,
      ),
      (c.in-Ok.peers, c.in-Ok.ensures),
      (c.in-Ok-from_of.from, c.in-Ok-from_of.ensures.ok),
      (
        c.in-Ok-callees_of.callees.items,
        subst (λ (peers : List PeerCall). AreCallees peers c.in-Ok-callees_of.callees.items)
            (c.as_slice.ensures ∙ c.peers.ensures)
            c.in-Ok-callees_of.ensures.ok,
      ),
      told.1,
    ))
