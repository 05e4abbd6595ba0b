-- Audits of updates that are answered one after the other.
use Rattle.std.proofs.Common.{◌≡◌, ◌∙◌, ℕ, suc, List, [], ◌∷◌, ◌++◌, length, Some, None, refl, ap}
use Rattle.std.specs.Prelude.{Option, slice_get, slice_set}
use Rattle.ua_session.specs.declared.audit.UpdateAudit.{UpdateAudit}
use Rattle.ua_services.specs.declared.updates.HistoryUpdateResult.{HistoryUpdateResult}
use Rattle.historian.specs.Auditing.{answered_audit, answered_audits, audits_with}

-- one in front doesn't matter
with-behind : (first : UpdateAudit) (audits : List UpdateAudit) (place : ℕ)
    (result : HistoryUpdateResult)
    → first ∷ audits_with audits place result ≡ audits_with (first ∷ audits) (suc place) result
with-behind first audits place result = by (slice_get audits place)
  where
    by : (found : Option UpdateAudit) → first ∷ (elim found [
      | None ↦ audits
      | Some audit ↦ slice_set audits place (answered_audit audit result)
    ]) ≡ elim found [
      | None ↦ first ∷ audits
      | Some audit ↦ slice_set (first ∷ audits) (suc place) (answered_audit audit result)
    ]
    by None = refl
    by (Some audit) = refl

-- none was answered yet
pub answered-none : (audits : List UpdateAudit) → answered_audits audits [] ≡ audits
answered-none [] = refl
answered-none (audit ∷ audits) = refl

-- one answer more
pub answered-more : (audits : List UpdateAudit) (results : List HistoryUpdateResult)
    (result : HistoryUpdateResult)
    → answered_audits audits (results ++ result ∷ [])
    ≡ audits_with (answered_audits audits results) (length results) result
answered-more [] results result = refl
answered-more (audit ∷ audits) [] result = ap (λ (l : List UpdateAudit). answered_audit audit result ∷ l) (answered-none audits)
answered-more (audit ∷ audits) (first ∷ results) result =
    ap (λ (l : List UpdateAudit). answered_audit audit first ∷ l)
    (answered-more audits results result)
    ∙ with-behind (answered_audit audit first) (answered_audits audits results) (length results)
    result
