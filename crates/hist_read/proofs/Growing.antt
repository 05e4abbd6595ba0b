-- Contents that hold all that another one does.
use Rattle.std.proofs.Common.{◌≡◌, Some, inl, inr, subst}
use Rattle.records.specs.Contents.{Content, AreCompatible, IsWithin, learned}
use Rattle.records.specs.Spelling.{IsLawfulRecord}
use Rattle.records.specs.declared.record.Record.{Record}
use Rattle.records.proofs.ContentLemmas.{named_once}
use Rattle.records.proofs.InclusionLemmas.{within_vectors, within_further}
use Rattle.records.proofs.LearnLemmas.{closed-learned, learned_within, learned_only}
use Rattle.archive.specs.Store.{IsLawfulContent}
use Rattle.hist_read.specs.Chains.{IsLater}

-- what holds all its records
pub later_within : (R S : Content) → IsLawfulContent R → IsLawfulContent S → IsWithin R S
    → IsLater R S
later_within R S lawful lawful' within =
    let same : AreCompatible R S =
    λ r s h k e f. named_once S lawful'.closed.ordered r s (within r h) k e f in
    record {
      lawful = lawful';
      compatible = same;
      covers =
          (within_vectors R S lawful.closed lawful'.closed same).0 within;
    }

-- what has learned one more record
pub later_learned : (R S T : Content) (r : Record) → IsLawfulContent R → IsLater R S
    → IsLawfulRecord r → learned S r ≡ Some T → IsLater R T
later_learned R S T r lawful later lawful' e =
    let held : IsWithin R S = (within_vectors R S lawful.closed later.lawful.closed
    later.compatible).1 later.covers in
    let whole : IsLawfulContent T = record {
      closed = closed-learned S r T later.lawful.closed e;
      records = λ z h. elim (learned_only S r T z e h)
          [ inl k ↦ later.lawful.records z k | inr same ↦ subst IsLawfulRecord same lawful' ];
    } in
    later_within R T lawful whole (within_further R S T held (learned_within S r T e).0)
