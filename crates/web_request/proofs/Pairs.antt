-- What stands round the first colon.
use Rattle.std.proofs.Common.{◌≡◌, ℕ, ◌+◌, List, take, drop, Option, None, Some, Ok, Err, ok_or, sym, ◌∙◌, ap}
use Rattle.std.specs.List.{position}
use Rattle.std.specs.Option.{option_map}
use Rattle.web_request.specs.Credentials.{is_colon, pair_in}
use Rattle.web_request.specs.declared.page.Credentials.{Credentials}
use Rattle.web_request.specs.declared.page.Refusal.{Refusal}

-- the name and the password that a colon parts
abbrev parts : List ℕ → Option ℕ → Option Credentials
parts bytes at =
    option_map (λ colon. record { name = take colon bytes; password = drop (colon + 1) bytes }) at

pub pair_is : (bytes : List ℕ) (colon : ℕ) (name password : List ℕ) (why : Refusal)
    → position is_colon bytes ≡ Some colon → name ≡ take colon bytes
    → password ≡ drop (colon + 1) bytes
    → ok_or (pair_in bytes) why ≡ Ok (record { name = name; password = password })
pair_is bytes colon name password why e n p =
    ap (λ at. ok_or (parts bytes at) why) e
    ∙ (λ i. Ok (record { name = sym n i; password = sym p i }))

pub no_pair : (bytes : List ℕ) (why : Refusal) → position is_colon bytes ≡ None
    → ok_or (pair_in bytes) why ≡ Err why
no_pair bytes why e = ap (λ at. ok_or (parts bytes at) why) e
