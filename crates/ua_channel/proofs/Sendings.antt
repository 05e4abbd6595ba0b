-- Sequence numbers run on, and so do the chunks of pieces.
use Rattle.std.proofs.Common.{◌≡◌, ℕ, suc, ◌+◌, ◌-◌, ◌%◌, ◌≤◌, List, [], ◌∷◌, sym, ap, ◌∙◌, subst, arith, append_assoc}
use Rattle.std.proofs.lemmas.List.{append-nil}
use Rattle.std.proofs.Math.Nat.{mod-add-mod}
use Rattle.uacp.specs.Split.{AreFull, IsSplit}
use Rattle.ua_channel.specs.Sending.{number_after, AreShort, IsNumber}

pub number_after-none : (number : ℕ) → IsNumber number → number_after number 0 ≡ number
number_after-none number is = omega (arith, is.0, is.1)

pub number_after-more : (number k : ℕ)
    → number_after (number_after number 1) k ≡ number_after number (suc k)
number_after-more number k =
    let once : ℕ = (number - 1 + 1) % 4294966272 in
    let first : once + 1 - 1 + k ≡ once + k = omega arith in
    let last : number - 1 + 1 + k ≡ number - 1 + suc k = omega arith in
    ap (λ n. n % 4294966272 + 1) first ∙ ap (λ n. n + 1) (mod-add-mod (number - 1 + 1) 4294966272 k)
    ∙ ap (λ n. n % 4294966272 + 1) last

pub short-by : (size most : ℕ) (pieces : List (List ℕ)) → size ≤ most → AreShort size pieces
    → AreShort most pieces
short-by size most [] le short = tt
short-by size most (piece ∷ pieces) le short =
    (omega (arith, short.0), short-by size most pieces le short.1)

full_short : (size : ℕ) (pieces : List (List ℕ)) → AreFull size pieces → AreShort size pieces
full_short size [] full = tt
full_short size (last ∷ []) full = (full.1, tt)
full_short size (piece ∷ next ∷ pieces) full =
    (omega (arith, full.0), full_short size (next ∷ pieces) full.1)

pub split_short : (size : ℕ) (body : List ℕ) (pieces : List (List ℕ)) → IsSplit size body pieces
    → AreShort size pieces
split_short size [] pieces is = subst (AreShort size) (sym is) (omega arith, tt)
split_short size (byte ∷ body) pieces is = full_short size pieces is.1

pub ruleset running = (number_after-none, number_after-more, append-nil, append_assoc)

pub ruleset shortness = (split_short, short-by)
