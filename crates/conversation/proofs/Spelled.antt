-- Texts that spell no network (`Network::parse`).
use Rattle.std.proofs.Common.{◌≡◌, ◌∙◌, ◌<◌, inl, inr, ℕ, List, length, sym, ap, subst, arith}
use Rattle.std.specs.List.{position_or_len, before_first, after_first}
use Rattle.std.specs.Net.Grammar.{IsIpText}
use Rattle.std.specs.declared.net.ip_addr.IpAddr.{IpAddr}
use Rattle.std.proofs.NetLemmas.Theorems.{IsIpText_unique}
use Rattle.conversation.specs.Networks.{is_slash, width, IsLengthText, IsNoLength, IsNoNetwork}

-- what stands behind the slash is no number
pub no-length : (text digits : List ℕ) → position_or_len is_slash text < length text
    → digits ≡ after_first is_slash text → IsNoLength digits → IsNoNetwork text
no-length text digits within behind none network (inl one) =
    absurd (omega (arith, one.0, within))
no-length text digits within behind none network (inr has) =
    none network.length (subst (λ (t : List ℕ). IsLengthText t network.length) (sym behind) has.2)

-- it is more than the address has bits
pub long-length : (text front digits : List ℕ) (address : IpAddr) (n : ℕ)
    → position_or_len is_slash text < length text → front ≡ before_first is_slash text
    → digits ≡ after_first is_slash text → IsIpText front address → IsLengthText digits n
    → width address < n → IsNoNetwork text
long-length text front digits address n within before behind spells is long network (inl one) =
    absurd (omega (arith, one.0, within))
long-length text front digits address n within before behind spells is long network (inr has) =
    let same : network.address ≡ address =
    IsIpText_unique front network.address address
    (subst (λ (t : List ℕ). IsIpText t network.address) (sym before) has.1) spells in
    let number : network.length ≡ n =
    (subst (λ (t : List ℕ). IsLengthText t network.length) (sym behind) has.2).1 ∙ sym is.1 in
    absurd (omega (arith, number, ap width same, has.3, long))
