-- The place that a continuation point tells.
use Rattle.std.proofs.Common.{rules, ◌≡◌, ℕ, true, cond, ◌&&◌, List, Option, Some, Result, Ok, Err, refl, ap, nat_eq, inl, inr}
use Rattle.std.specs.Prelude.{if◌then◌else◌}
use Rattle.std.specs.Option.{ok_or}
use Rattle.ua_binary.specs.Format.{◌>>=◌}
use Rattle.ua_binary.specs.declared.codes.Status.{Status}
use Rattle.std.proofs.lemmas.Bool.{cases_Bool, and_from, and_parts}
use Rattle.std.specs.Cmp.{booleans_Decides, unsigned_Decides}
use Rattle.std.specs.Cmp.Lexicographic.{pointwise}
use Rattle.ua_binary.specs.declared.values.NodeId.{NodeId}
use Rattle.records.specs.Same.{is_same, same_node}
use Rattle.records.proofs.SameParts.{node_code}
use Rattle.records.proofs.Same.{Decides-is_same}
use Rattle.ua_variant.proofs.Equal.{IsExact, pairs, through}
use Rattle.ua_binary.specs.contracts.values.TicksPartialEq as ticks
use base.Stored.{Coded}
use Rattle.ua_services.specs.contracts.history.ReadRawModifiedDetails as row
use Rattle.ua_services.specs.contracts.history.ReadRawModifiedDetailsPartialEq as details
use Rattle.ua_services.specs.declared.history.ReadRawModifiedDetails.{ReadRawModifiedDetails as Details}
use Rattle.ua_binary.specs.declared.codes.TheConstants.Status.{BAD_CONTINUATION_POINT_INVALID}
use Rattle.ua_services.specs.History.{raw_of, raw_fields}
use Rattle.hist_read.specs.Point.{Point}
use Rattle.hist_read.specs.Node.{IsOfRead, Behind}
use Rattle.hist_read.proofs.NodeParts.{agrees}

-- what a point tells of where reading goes on, as `place_in` has it
abbrev pub place_told : List ℕ → NodeId → Details → Option Point → Result (Option Behind) Status
place_told id node q point = ok_or point BAD_CONTINUATION_POINT_INVALID >>= λ p.
    if agrees id node q p then Ok (Some (p.position, p.vector)) else Err
    BAD_CONTINUATION_POINT_INVALID

abbrev details_code : Coded Details
details_code = row.the_row.coded

moments : IsExact (ticks.TheImpl.eq-value).it
moments a b = search rules

pub exact_details : IsExact (details.TheImpl.eq-value).it
exact_details = through raw_fields raw_of (λ _. refl)
    (pairs booleans_Decides (pairs moments
    (pairs moments (pairs unsigned_Decides booleans_Decides))))

same_bytes : (a b : List ℕ) → (pointwise nat_eq a b ≡ true → a ≡ b)
    × (a ≡ b → pointwise nat_eq a b ≡ true)
same_bytes a b = search rules

module _ (id : List ℕ) (node : NodeId) (q : Details) (p : Point) where
  told_from : agrees id node q p ≡ true → IsOfRead id node q p
  told_from e =
      let one = and_parts (pointwise nat_eq p.archive id)
      (same_node p.node node && is_same details_code p.details q) e in
      let two = and_parts (same_node p.node node) (is_same details_code p.details q) one.1 in (
        (same_bytes p.archive id).0 one.0,
        (Decides-is_same node_code p.node node).0 two.0,
        (Decides-is_same details_code p.details q).0 two.1,
      )

  pub told_agreed : IsOfRead id node q p
      → place_told id node q (Some p) ≡ Ok (Some (p.position, p.vector))
  told_agreed h =
      let test : agrees id node q p ≡ true =
      and_from _ _ ((same_bytes p.archive id).1 h.0)
      (and_from _ _ ((Decides-is_same node_code p.node node).1 h.1)
      ((Decides-is_same details_code p.details q).1 h.2)) in
      ap (λ b. cond b (Ok (Some (p.position, p.vector))) (Err BAD_CONTINUATION_POINT_INVALID)) test

  pub told_other : (IsOfRead id node q p → ⊥)
      → place_told id node q (Some p) ≡ Err BAD_CONTINUATION_POINT_INVALID
  told_other none = elim (cases_Bool (agrees id node q p)) [
    | inl e ↦ absurd (none (told_from e))
    | inr e ↦ ap (λ b. cond b (Ok (Some (p.position, p.vector)))
        (Err BAD_CONTINUATION_POINT_INVALID)) e
  ]
