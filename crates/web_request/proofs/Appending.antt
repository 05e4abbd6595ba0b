-- What is appended field by field is appended as a whole.
use Rattle.std.proofs.Common.{◌≡◌, ℕ, List, ◌++◌, append_assoc, ap, ◌∙◌}
use Rattle.std.specs.Prelude.{codes}
use Rattle.web_request.specs.Heads.{connection_text, body_fields, head_field, framing, guards, kind_text}
use Rattle.web_request.specs.declared.answer.Answer.{Answer}

-- two steps are one
joined : (o a c x y : List ℕ) → a ≡ o ++ x → c ≡ a ++ y → c ≡ o ++ (x ++ y)
joined o a c x y p q = q ∙ (ap (λ l. l ++ y) p ∙ append_assoc o x y)

-- three steps are one
three : (o a b c x y z : List ℕ) → a ≡ o ++ x → b ≡ a ++ y → c ≡ b ++ z
    → c ≡ o ++ ((x ++ y) ++ z)
three o a b c x y z p q r = joined o b c (x ++ y) z (joined o a b x y p q) r

-- the fields that tell of the body and of the connection
pub told : (answer : Answer) (o a b c kind connection : List ℕ)
    → kind ≡ kind_text answer.kind → connection ≡ connection_text answer.keeps_open
    → a ≡ o ++ head_field (codes "Content-Type") kind
    → b ≡ a ++ framing answer.body
    → c ≡ b ++ head_field (codes "Connection") connection → c ≡ o ++ body_fields answer
told answer o a b c kind connection k n p q r =
    three o a b c (head_field (codes "Content-Type") kind) (framing answer.body)
    (head_field (codes "Connection") connection) p q r
    ∙ (λ i. o ++ ((head_field (codes "Content-Type") (k i) ++ framing answer.body)
    ++ head_field (codes "Connection") (n i)))

-- the fields that every answer has
pub guarded : (o a b c d e : List ℕ)
    → a ≡ o ++ head_field (codes "Cache-Control") (codes "no-store")
    → b ≡ a ++ head_field (codes "Content-Security-Policy")
    (codes "default-src 'none'; style-src 'unsafe-inline'")
    → c ≡ b ++ head_field (codes "X-Content-Type-Options") (codes "nosniff")
    → d ≡ c ++ head_field (codes "X-Frame-Options") (codes "DENY")
    → e ≡ d ++ head_field (codes "Referrer-Policy") (codes "no-referrer") → e ≡ o ++ guards
unfolding guards
guarded o a b c d e p q r s t =
    let x = head_field (codes "Cache-Control") (codes "no-store") in
    let y = head_field (codes "Content-Security-Policy")
    (codes "default-src 'none'; style-src 'unsafe-inline'") in
    let z = head_field (codes "X-Content-Type-Options") (codes "nosniff") in
    let v = head_field (codes "X-Frame-Options") (codes "DENY") in
    let w = head_field (codes "Referrer-Policy") (codes "no-referrer") in
    three o c d e ((x ++ y) ++ z) v w (three o a b c x y z p q r) s t
