-- An answer of the archive, told in other words.
use Rattle.std.proofs.Common.{◌≡◌, ◌∙◌, ℕ, Option, None, Some, Result, Ok, Err, IfOk, refl}
use Rattle.archive.specs.declared.fault.StoreFault.{StoreFault}
use Rattle.archive.specs.Store.{Store, AfterCall, KeepsContent, Asks, IsLawfulContent}
use Rattle.archive.specs.declared.setback.StepError.TheVariants as setback
use Rattle.hist_read.specs.declared.fault.PageFault.{PageFault}
use Rattle.hist_read.specs.declared.fault.PageFault.TheVariants as page
use Rattle.hist_read.specs.Finding.{Finds, fault_met}
use Rattle.archive.proofs.Calls.{in_use, left_in_use, leaves-then, asks-then, asks-failed}

-- an answered call was one over a lawful content
pub lawful_at : (a b : Store) → AfterCall a b None → b.honest → IsLawfulContent a.content
lawful_at a b p h = (p.before (p.passes.honest h) (in_use a b p)).lawful

pub asked_as : {A B : Type 0} (a b : Store) (x : A) (y : B) (P : A → Type 0) (Q : B → Type 0)
    → Asks a b (Ok x) P → (IsLawfulContent a.content → P x → Q y) → Asks a b (Ok y) Q
asked_as a b x y P Q p go = record {
  answer = λ h. go (lawful_at a b p.leaves h) (p.answer h);
  stays = p.stays;
  leaves = p.leaves;
}

-- the same of an answer as it is, whatever it is
pub asked_so : {A : Type 0} (a b : Store) (r : Result A StoreFault) (P Q : A → Type 0)
    → Asks a b r P → ((x : A) → IsLawfulContent a.content → P x → Q x) → Asks a b r Q
asked_so a b (Ok x) P Q p go = asked_as a b x x P Q p (go x)
asked_so a b (Err fault) P Q p go = asks-failed a b fault P Q p

-- two calls that were answered
pub asked_both : {A B C : Type 0} (a b c : Store) (x : A) (y : B) (z : C) (P : A → Type 0)
    (Q : B → Type 0) (S : C → Type 0)
    → Asks a b (Ok x) P → Asks b c (Ok y) Q → (IsLawfulContent a.content → b.content ≡ a.content
    → P x → Q y → S z) → Asks a c (Ok z) S
asked_both a b c x y z P Q S p q go =
    let both : Asks a c (Ok y) (λ y. S z) =
    asks-then a b c x (Ok y) P Q (λ y. S z) p q
    (λ h same px qy. go (lawful_at a b p.leaves (q.leaves.passes.honest h)) same px qy) in
    asked_as a c y z (λ y. S z) S both (λ l s. s)

-- what was asked of the archive, and then made of the answer
pub page_as : {A B : Type 0} (a b : Store) (longest : Option ℕ) (x : A) (y : B) (P : A → Type 0)
    (Q : B → Type 0) (L : ℕ → Type 0) → Asks a b (Ok x) P
    → (IsLawfulContent a.content → P x → Q y) → Finds a b longest (Ok y) Q L
page_as a b longest x y P Q L p go = record {
  answer = λ h. go (lawful_at a b p.leaves h) (p.answer h);
  too_long = λ e. absurd cc;
  stays = p.stays;
  leaves = p.leaves;
}

-- too much of it for a page
pub page_long : {A B : Type 0} (a b : Store) (longest : Option ℕ) (x : A) (P : A → Type 0)
    (Q : B → Type 0) (L : ℕ → Type 0) → Asks a b (Ok x) P
    → (limit : ℕ) × (longest ≡ Some limit) × (IsLawfulContent a.content → P x → L limit)
    → Finds {X = B} a b longest (Err page.TooLong) Q L
page_long a b longest x P Q L p (limit, is, go) = record {
  answer = λ h. tt;
  too_long = λ e. (limit, is, λ h. go (lawful_at a b p.leaves h) (p.answer h));
  stays = p.stays;
  leaves = p.leaves;
}

-- memory was wanting for what was to be made of the answer
pub page_starved : {A B : Type 0} (a b : Store) (longest : Option ℕ) (x : A) (P : A → Type 0)
    (Q : B → Type 0) (L : ℕ → Type 0) → Asks a b (Ok x) P
    → Finds {X = B} a b longest (Err (page.Step setback.OutOfMemory)) Q L
page_starved a b longest x P Q L p = record {
  answer = λ h. tt;
  too_long = λ e. absurd cc;
  stays = p.stays;
  leaves = p.leaves;
}

-- a fault of the store
pub page_failed : {A B : Type 0} (a b : Store) (longest : Option ℕ) (fault : StoreFault)
    (P : A → Type 0) (Q : B → Type 0) (L : ℕ → Type 0) → Asks {A = A} a b (Err fault) P
    → Finds {X = B} a b longest (Err (page.Step (setback.Store fault))) Q L
page_failed a b longest fault P Q L p = record {
  answer = λ h. tt;
  too_long = λ e. absurd cc;
  stays = p.stays;
  leaves = p.leaves;
}

-- what was found, and then made of it
pub page_made : {A B : Type 0} (a b : Store) (longest : Option ℕ) (x : A) (y : B) (P : A → Type 0)
    (Q : B → Type 0) (L M : ℕ → Type 0) → Finds a b longest (Ok x) P L
    → (IsLawfulContent a.content → P x → Q y) → Finds a b longest (Ok y) Q M
page_made a b longest x y P Q L M p go = record {
  answer = λ h. go (lawful_at a b p.leaves h) (p.answer h);
  too_long = λ e. absurd cc;
  stays = p.stays;
  leaves = p.leaves;
}

-- memory was wanting for that
pub made_starved : {A B : Type 0} (a b : Store) (longest : Option ℕ) (x : A) (P : A → Type 0)
    (Q : B → Type 0) (L M : ℕ → Type 0) → Finds a b longest (Ok x) P L
    → Finds {X = B} a b longest (Err (page.Step setback.OutOfMemory)) Q M
made_starved a b longest x P Q L M p = record {
  answer = λ h. tt;
  too_long = λ e. absurd cc;
  stays = p.stays;
  leaves = p.leaves;
}

-- what came in the way is told as it is
pub page_passed : {A B : Type 0} (a b : Store) (longest : Option ℕ) (e : PageFault)
    (P : A → Type 0) (Q : B → Type 0) (L M : ℕ → Type 0) → Finds {X = A} a b longest (Err e) P L
    → ((limit : ℕ) → IsLawfulContent a.content → L limit → M limit)
    → Finds {X = B} a b longest (Err e) Q M
page_passed a b longest (page.Step setback.OutOfMemory) P Q L M p long = record {
  answer = λ h. tt;
  too_long = λ e. absurd cc;
  stays = p.stays;
  leaves = p.leaves;
}
page_passed a b longest (page.Step (setback.Store fault)) P Q L M p long = record {
  answer = λ h. tt;
  too_long = λ e. absurd cc;
  stays = p.stays;
  leaves = p.leaves;
}
page_passed a b longest page.TooLong P Q L M p long = record {
  answer = λ h. tt;
  too_long = λ e. let (limit, is, more) = p.too_long refl in
      (limit, is, λ h. long limit (lawful_at a b p.leaves h) (more h));
  stays = p.stays;
  leaves = p.leaves;
}

-- what was found, told in other words
pub page_so : {A : Type 0} (a b : Store) (longest : Option ℕ) (r : Result A PageFault)
    (P Q : A → Type 0) (L M : ℕ → Type 0) → Finds a b longest r P L
    → ((x : A) → IsLawfulContent a.content → P x → Q x)
    → ((limit : ℕ) → IsLawfulContent a.content → L limit → M limit) → Finds a b longest r Q M
page_so {A} a b longest (Ok x) P Q L M p go long = record {
  answer = λ h. go x (lawful_at a b p.leaves h) (p.answer h);
  too_long = λ e. absurd cc;
  stays = p.stays;
  leaves = p.leaves;
}
page_so {A} a b longest (Err e) P Q L M p go long = page_passed a b longest e P Q L M p long

-- the content stayed, and no fault came: what was found behind it is found behind both
module _ {B : Type 0} (a b c : Store) (leaves : AfterCall a b None) (stays : KeepsContent a b)
    (longest : Option ℕ) (r : Result B PageFault) (Q S : B → Type 0) (M N : ℕ → Type 0)
    (q : Finds b c longest r Q M) where
  before : c.honest → b.honest
  before = q.leaves.passes.honest

  same : c.honest → b.content ≡ a.content
  same h = stays.content (before h) (left_in_use a b leaves)

  pub page_behind : (IsLawfulContent a.content → b.honest → b.content ≡ a.content
      → (y : B) → Q y → S y)
      → (IsLawfulContent a.content → b.honest → b.content ≡ a.content
      → (limit : ℕ) → M limit → N limit)
      → Finds a c longest r S N
  page_behind go long = record {
    answer = λ h. each r (λ y k.
        go (lawful_at a b leaves (before h)) (before h) (same h) y k) (q.answer h);
    too_long = λ e. let (limit, is, more) = q.too_long e in (
      limit,
      is,
      λ h. long (lawful_at a b leaves (before h)) (before h) (same h) limit (more h),
    );
    stays = record {
      content = λ h u. q.stays.content h u ∙ same h;
      crash = λ h left m. stays.crash (before h) left (q.stays.crash h left m);
    };
    leaves = leaves-then a b c (fault_met r) leaves q.leaves;
  }
    where
      each : (r : Result B PageFault) → ((y : B) → Q y → S y) → IfOk r Q → IfOk r S
      each (Ok y) so k = so y k
      each (Err e) so k = tt
