-- The test of being one is exact.
use Rattle.std.proofs.Common.{◌≡◌, true, refl, sym, ap, subst}
use Rattle.std.specs.Bool.{Decides}
use Rattle.std.proofs.lemmas.Bool.{true≢false, eq-eqb, eqb-true, and_parts, and_from}
use base.Stored.{Coded, Gv, gnil, gnum, gcons}
use Rattle.records.specs.Same.{same_tree, is_same}

pub tree_itself : (a : Gv) → same_tree a a ≡ true
tree_itself gnil = refl
tree_itself (gnum n) = eq-eqb n n refl
tree_itself (gcons a b) = and_from _ _ (tree_itself a) (tree_itself b)

pub same_trees : (a b : Gv) → same_tree a b ≡ true → a ≡ b
same_trees gnil gnil e = refl
same_trees (gnum m) (gnum n) e = ap gnum (eqb-true m n e)
same_trees (gcons a b) (gcons c d) e =
    let parts = and_parts _ _ e in
    let p = same_trees a c parts.0 in
    let q = same_trees b d parts.1 in
    λ i. gcons (p i) (q i)
same_trees _ _ e = absurd (true≢false (sym e))

pub Decides-is_same : {A : Type 0} → (c : Coded A) → (x y : A) → Decides (is_same c x y) (x ≡ y)
Decides-is_same c x y = (
  λ e. c.inj x y (same_trees _ _ e),
  λ p. subst (λ z. same_tree (c.code x) (c.code z) ≡ true) p (tree_itself (c.code x)),
)
