-- Inclusion is an order.
use Rattle.std.proofs.Common.{◌≡◌, ℕ, ◌≤◌, subst, arith}
use Rattle.std.specs.Prelude.{◌↔◌}
use Rattle.records.specs.Lists.{Rises}
use Rattle.records.specs.Records.{name_cmp}
use Rattle.records.specs.Contents.{Content, vec, IsClosed, AreCompatible, IsWithin}
use Rattle.records.proofs.Sorting.{same_members}
use Rattle.records.proofs.Orders.{name_total}
use Rattle.records.proofs.ContentLemmas.{vec_bounds, vec_least, compatible_back, reached}

pub within_itself : (R : Content) → IsWithin R R
within_itself R r h = h

pub within_further : (R S T : Content) → IsWithin R S → IsWithin S T → IsWithin R T
within_further R S T a b r h = b r (a r h)

pub within_both : (R S : Content) → Rises name_cmp R → Rises name_cmp S → IsWithin R S
    → IsWithin S R → R ≡ S
within_both R S up up' a b = same_members name_cmp name_total R S up up' a b

-- one closed content is within another, where they are compatible, just where its vector is at most
-- the other's
pub within_vectors : (R S : Content) → IsClosed R → IsClosed S → AreCompatible R S
    → IsWithin R S ↔ ((origin : ℕ) → vec R origin ≤ vec S origin)
within_vectors R S closed closed' same = (
  λ a origin. vec_least R origin (vec S origin) (λ r h e.
      subst (λ o. r.number ≤ vec S o) e (vec_bounds S r (a r h))),
  λ le r h. let bound = vec_bounds R r h in let small = le r.origin in
      reached S R closed' closed (compatible_back R S same) r h (omega arith),
)

pub ruleset inclusion = (within_itself, within_further, within_both, within_vectors)
