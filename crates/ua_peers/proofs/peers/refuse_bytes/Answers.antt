use Rattle.std.proofs.Common.{refl, inl, ◌∙◌, ap, ◌++◌, List, ℕ, [], ◌∷◌}
use Rattle.ua_peers.proofs.Talking.{end-one}
use Rattle.ua_peers.proofs.peers.refuse_bytes.Goals as goal

pub returns-in-Ok : goal.returns-in-Ok
returns-in-Ok c = inl (
  refl,
  c.in-Ok.ensures.items
      ∙ (ap (λ (o : List ℕ). o ++ (82 ∷ 88 ∷ 69 ∷ 70 ∷ 12 ∷ 0 ∷ 0 ∷ 0 ∷ 1 ∷ 0 ∷ 0 ∷ 0 ∷ []))
      c.requires ∙ end-one),
)
