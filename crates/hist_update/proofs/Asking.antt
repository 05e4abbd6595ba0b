-- Queries of an archive, and what comes behind them.
use Rattle.std.proofs.Common.{◌≡◌, ℕ, nat_lt, Bool, false, not, List, [], ◌∷◌, None, Ok, refl, sym, ap, ◌∙◌, subst, inl}
use Rattle.std.specs.Prelude.{if◌then◌else◌}
use Rattle.stamp.specs.Numbers.{number_of}
use Rattle.records.specs.Contents.{Content, vec, cut}
use Rattle.records.specs.Records.{is_beyond}
use Rattle.records.proofs.CutLemmas.{cut_whole}
use Rattle.archive.specs.Store.{Store, StepResult, faults_of, CountsFaults, Asks, MayBeMarksAfterRecovery, IsLeft, IsThere}
use Rattle.archive.specs.Steps.{Transitions}
use Rattle.archive.specs.Growth.{Grows}
use Rattle.archive.proofs.Acting.{there-behind}
use Rattle.archive.proofs.Calls.{passes-then, in_use, left_in_use}

-- behind a query that was answered, what was held is what it was answered from
pub moves-behind : {B : Type 0} (a b c : Store) (x : B) (P : B → Type 0) (used : List StepResult)
    (To : List StepResult → Content → Content → Type 0) → Asks a b (Ok x) P
    → CountsFaults b c (faults_of used) → (IsThere b → IsThere c)
    → (c.honest → P x → b.content ≡ a.content → (S : Content) → IsLeft c S
    → (marks : List StepResult) × MayBeMarksAfterRecovery false used marks × To marks a.content S
    × Grows a.own a.content S)
    → Transitions a c used To
moves-behind {B} a b c x P used To p passes there so = record {
  passes = passes-then a b c [] (faults_of used) p.leaves.passes passes;
  acts = λ honest S h.
      let here = passes.honest honest in
      let whole = in_use a b p.leaves in
      let (marks, found, to, grows) =
      so honest (p.answer here) (p.stays.content here (left_in_use a b p.leaves)) S h in (
        marks,
        subst (λ x. MayBeMarksAfterRecovery x used marks) (sym whole) found,
        a.content,
        inl (whole, refl),
        to,
        grows,
      );
  there = λ was. there (there-behind a b None p.leaves was);
}

-- ---- all that is held

cut_as : (R : Content) (v w : ℕ → ℕ) → ((o : ℕ) → v o ≡ w o) → cut R v ≡ cut R w
cut_as [] v w same = refl
cut_as (r ∷ R) v w same =
    let more = cut_as R v w same in
    let here : is_beyond v r ≡ is_beyond w r = ap (λ n. nat_lt n r.number) (same r.origin) in
    ap (λ (x : Bool). if not x then r ∷ cut R v else cut R v) here
    ∙ ap (λ (S : Content). if not (is_beyond w r) then r ∷ S else S) more

-- the vector that the archive told covers all that it held then
pub covers_all : (a b : Store) (v : List ℕ)
    → Asks a b (Ok v) (λ w. (replica : ℕ) → number_of w replica ≡ vec a.content replica)
    → b.honest → cut b.content (number_of v) ≡ a.content
covers_all a b v p h =
    let settled = p.leaves.before (p.leaves.passes.honest h) (in_use a b p.leaves) in
    ap (λ S. cut S (number_of v)) (p.stays.content h (left_in_use a b p.leaves))
    ∙ (cut_as a.content (number_of v) (vec a.content) (p.answer h)
    ∙ cut_whole a.content settled.lawful.closed)
