-- The peers that a server calls, each with the address that its text spells (`callees_of`).
use Rattle.std.proofs.Common.{◌≡◌, ◌∙◌, ◌+◌, ℕ, zero, suc, List, [], ◌∷◌, ◌++◌, take, Some, sym, ap, arith, subst}
use Rattle.std.specs.Prelude.{slice_get}
use Rattle.std.specs.Net.Grammar.{IsSocketText}
use Rattle.ua_settings.specs.declared.peers.PeerCall.{PeerCall}
use Rattle.ua_server.specs.declared.listening.Callee.{Callee}
use Rattle.ua_server.specs.Listening.{AreCallees}

-- one peer more, behind so many
more-callee : (peers : List PeerCall) (i : ℕ) (callees : List Callee) (peer : PeerCall)
    (callee : Callee) → slice_get peers i ≡ Some peer → AreCallees (take i peers) callees
    → IsSocketText peer.address callee.address → callee.every ≡ peer.every
    → AreCallees (take (suc i) peers) (callees ++ callee ∷ [])
more-callee [] i callees peer callee is are text every = absurd cc
more-callee (first ∷ peers) zero [] peer callee is are text every =
    let same : first ≡ peer = cc in
    let P : PeerCall → Type 0 = λ peer. IsSocketText peer.address callee.address in
    (subst P (sym same) text, every ∙ ap (λ (p : PeerCall). p.every) (sym same), tt)
more-callee (first ∷ peers) zero (other ∷ callees) peer callee is are text every = absurd are
more-callee (first ∷ peers) (suc i) [] peer callee is are text every = absurd are
more-callee (first ∷ peers) (suc i) (other ∷ callees) peer callee is are text every =
    (are.0, are.1, more-callee peers i callees peer callee is are.2 text every)

pub one-callee : (peers : List PeerCall) (i : ℕ) (callees : List Callee) (peer : PeerCall)
    (callee : Callee) → slice_get peers i ≡ Some peer → AreCallees (take i peers) callees
    → IsSocketText peer.address callee.address → callee.every ≡ peer.every
    → AreCallees (take (i + 1) peers) (callees ++ callee ∷ [])
one-callee peers i callees peer callee is are text every =
    let next : suc i ≡ i + 1 = omega arith in
    subst (λ (n : ℕ). AreCallees (take n peers) (callees ++ callee ∷ [])) next
    (more-callee peers i callees peer callee is are text every)
