-- Password files that are judged one after the other (`first_beside`, exposing.rt).
use Rattle.std.proofs.Common.{◌≡◌, ◌∙◌, ◌+◌, ◌<◌, ◌++◌, ℕ, List, [], ◌∷◌, length, take, drop, get_or, true, false, Some, sym, ap, subst}
use Rattle.std.proofs.lemmas.List.{drop_more, take_more, take-append-drop}
use Rattle.std.specs.List.{AllByRecursion}
use Rattle.ua_server.specs.Host.{Machine}
use Rattle.ua_server.specs.Exposing.{ExposesBeside, IsFirstBeside}

-- one more of which something holds
all-more : {X : Type 0} (P : X → Type 0) (xs : List X) (x : X) → AllByRecursion P xs → P x
    → AllByRecursion P (xs ++ x ∷ [])
all-more P [] x all one = (one, all)
all-more P (y ∷ ys) x all one = (all.0, all-more P ys x all.1 one)

module _ {H A L R W I : Type 0} (machine : Machine H A L R W I) (host : H) (settings : List ℕ) where
  abbrev Closed : List ℕ → Type 0
  Closed path = ExposesBeside machine host settings false path

  -- one file more isn't exposed
  pub one-closed : (paths : List (List ℕ)) (i : ℕ) (d : List ℕ) → i < length paths
      → AllByRecursion Closed (take i paths) → Closed (get_or paths i d)
      → AllByRecursion Closed (take (i + 1) paths)
  one-closed paths i d within all one =
      subst (AllByRecursion Closed) (sym (take_more paths i d within))
      (all-more Closed (take i paths) (get_or paths i d) all one)

  -- the first that is exposed
  pub first-open : (paths : List (List ℕ)) (i : ℕ) (d : List ℕ) → i < length paths
      → AllByRecursion Closed (take i paths)
      → ExposesBeside machine host settings true (get_or paths i d)
      → IsFirstBeside machine host settings paths (Some (get_or paths i d))
  first-open paths i d within all one = (
    take i paths,
    drop (i + 1) paths,
    sym (take-append-drop i paths)
        ∙ ap (λ (l : List (List ℕ)). take i paths ++ l) (drop_more paths i d within),
    all,
    one,
  )
