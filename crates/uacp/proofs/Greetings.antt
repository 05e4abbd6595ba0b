-- The greeting's formats are lawful, and a Hello is read where it is spelled.
use Rattle.std.proofs.Common.{◌≡◌, ℕ, List, length, Bool, true, false, cond, eqb, Result, Ok, Err, refl, ap}
use Rattle.std.specs.Prelude.{◌↔◌}
use Rattle.ua_binary.specs.Format.{Reading, IsLawful, IsPrefixFree, raised, with_fault, ◌>>=◌}
use Rattle.ua_binary.proofs.Combined.{exactly_lawful, then_lawful, standing_lawful, raised_lawful}
use Rattle.ua_binary.proofs.Lawful.{u32_lawful, status_lawful, text_lawful}
use Rattle.ua_binary.proofs.Spelled.{prefix_free, whole_found, whole_only}
use Rattle.ua_binary.specs.declared.fault.BinaryFault.{BinaryFault}
use Rattle.uacp.specs.declared.types.UacpFault.{UacpFault}
use Rattle.uacp.specs.declared.types.UacpFault.TheVariants.{HelloInvalid}
use Rattle.uacp.specs.declared.greeting.Hello.{Hello}
use Rattle.uacp.specs.Greeting.{hello, hello_at, acknowledge, error}

pub hello_lawful : IsLawful hello
unfolding hello
hello_lawful = standing_lawful _ _ (then_lawful u32_lawful
    (then_lawful u32_lawful (then_lawful u32_lawful
    (then_lawful u32_lawful (then_lawful u32_lawful text_lawful)))))

pub acknowledge_lawful : IsLawful acknowledge
unfolding acknowledge
acknowledge_lawful = standing_lawful _ _ (then_lawful (exactly_lawful _ _)
    (then_lawful (exactly_lawful _ _) (then_lawful (exactly_lawful _ _)
    (then_lawful u32_lawful (then_lawful u32_lawful
    (then_lawful (exactly_lawful _ _) (exactly_lawful _ _)))))))

pub error_lawful : IsLawful error
unfolding error
error_lawful = standing_lawful _ _ (then_lawful (exactly_lawful _ _)
    (then_lawful (exactly_lawful _ _) (then_lawful status_lawful (exactly_lawful _ _))))

pub hello_alone : IsPrefixFree hello
hello_alone = prefix_free hello_lawful

pub acknowledge_alone : IsPrefixFree acknowledge
acknowledge_alone = prefix_free acknowledge_lawful

pub error_alone : IsPrefixFree error
error_alone = prefix_free error_lawful

pub ruleset lawful = (
  hello_lawful,
  acknowledge_lawful,
  error_lawful,
  hello_alone,
  acknowledge_alone,
  error_alone,
)

-- reading all of some bytes, where each fault is told as one
one_fault : {A : Type 0} (e : UacpFault) (r : Reading BinaryFault A) (d : UacpFault)
    → (with_fault (λ _. e) r >>= λ a. cond (eqb (length a.1) 0) (Ok a.0) (Err e)) ≡ Err d → d ≡ e
one_fault e (Err cause) d h = cc
one_fault e (Ok a) d h = one_rest e (eqb (length a.1) 0) a.0 d h
  where
    one_rest : {A : Type 0} (e : UacpFault) (b : Bool) (v : A) (d : UacpFault)
        → cond b (Ok v) (Err e) ≡ Err d → d ≡ e
    one_rest e true v d h = cc
    one_rest e false v d h = cc

pub hello_reads : (body : List ℕ) (v : Hello) → hello.Spells body v ↔ (hello_at body ≡ Ok v)
hello_reads body v =
    let lawful : IsLawful (raised (λ _. HelloInvalid) hello) =
    raised_lawful (λ _. HelloInvalid) hello_lawful in
    (λ s. whole_only HelloInvalid lawful body v s, λ e. whole_found HelloInvalid lawful body v e)

refused_so : (body : List ℕ) (r : Result Hello UacpFault) → hello_at body ≡ r
    → ((v : Hello) → ¬ (hello.Spells body v)) → r ≡ Err HelloInvalid
refused_so body (Ok v) e none = absurd (none v ((hello_reads body v).1 e))
refused_so body (Err d) e none = ap Err (one_fault HelloInvalid (hello.read body) d e)

pub hello_refused : (body : List ℕ) → ((v : Hello) → ¬ (hello.Spells body v))
    → hello_at body ≡ Err HelloInvalid
hello_refused body none = refused_so body (hello_at body) refl none

pub ruleset hello_read = (hello_reads, hello_refused)
