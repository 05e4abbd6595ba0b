use Rattle.std.proofs.Common.{◌≡◌, ℕ, List, count_by, nat_eq, take}
use Rattle.std.specs.List.{list_any}
use Rattle.std.specs.Cmp.Lexicographic.{pointwise}
use Rattle.ua_settings.specs.Keys.{count_at, is_counted}
use Rattle.ua_settings.proofs.judging.count.Given as goal

abbrev pub invariant-loop-text : goal.invariant-loop-text
invariant-loop-text l =
    ((text : List ℕ) → count_at l.counts text
    ≡ count_by (λ one. pointwise nat_eq text one.now) (take l.text-index l.texts))
    × ((text : List ℕ) → is_counted l.counts text
    ≡ list_any (λ one. pointwise nat_eq text one.now) (take l.text-index l.texts))
