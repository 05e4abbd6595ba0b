-- The networks from which peers are taken, each as its text spells it (`networks_in`).
use Rattle.std.proofs.Common.{◌≡◌, ◌+◌, ℕ, zero, suc, List, [], ◌∷◌, ◌++◌, take, Some, None, sym, arith, subst}
use Rattle.std.specs.Prelude.{Option, slice_get}
use Rattle.conversation.specs.Networks.{IsNetworkText}
use Rattle.conversation.specs.declared.networks.Network.{Network}
use Rattle.ua_server.specs.declared.program.ProgramFault.{ProgramFault}
use Rattle.ua_server.specs.declared.program.ProgramFault.TheVariants.{DoorNetwork}
use Rattle.ua_server.specs.Listening.{AreNetworks, IsNoNetworkAt}

-- one network more, behind so many
more-network : (texts : List (List ℕ)) (i : ℕ) (networks : List Network) (text : List ℕ)
    (network : Network) → slice_get texts i ≡ Some text → AreNetworks (take i texts) networks
    → IsNetworkText text network
    → AreNetworks (take (suc i) texts) (networks ++ network ∷ [])
more-network [] i networks text network is are spelled = absurd cc
more-network (first ∷ texts) zero [] text network is are spelled =
    let same : first ≡ text = cc in
    (subst (λ (t : List ℕ). IsNetworkText t network) (sym same) spelled, tt)
more-network (first ∷ texts) zero (other ∷ networks) text network is are spelled = absurd are
more-network (first ∷ texts) (suc i) [] text network is are spelled = absurd are
more-network (first ∷ texts) (suc i) (other ∷ networks) text network is are spelled =
    (are.0, more-network texts i networks text network is are.1 spelled)

pub one-network : (texts : List (List ℕ)) (i : ℕ) (networks : List Network) (text : List ℕ)
    (network : Network) → slice_get texts i ≡ Some text → AreNetworks (take i texts) networks
    → IsNetworkText text network
    → AreNetworks (take (i + 1) texts) (networks ++ network ∷ [])
one-network texts i networks text network is are spelled =
    let next : suc i ≡ i + 1 = omega arith in
    subst (λ (n : ℕ). AreNetworks (take n texts) (networks ++ network ∷ [])) next
    (more-network texts i networks text network is are spelled)

-- what is told where one spells none
pub told-network : (from : Option (List (List ℕ))) (fault : ProgramFault) → IsNoNetworkAt from fault
    → (number : ℕ) × (fault ≡ DoorNetwork number)
told-network None fault wrong = absurd wrong
told-network (Some texts) fault wrong = (wrong.0, wrong.1)
