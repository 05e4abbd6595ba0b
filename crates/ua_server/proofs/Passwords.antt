-- Password files that are read one after the other (`read_passwords`).
use Rattle.std.proofs.Common.{◌≡◌, ◌∙◌, ◌+◌, ◌<◌, ◌++◌, ℕ, List, [], ◌∷◌, length, take, drop, get_or, Some, None, Ok, Err, inr, refl, sym, ap, subst}
use Rattle.std.proofs.lemmas.List.{drop_more, take_more, take-append-drop}
use Rattle.std.specs.Prelude.{Option, Result}
use Rattle.ua_settings.specs.declared.password.PasswordLine.{PasswordLine}
use Rattle.ua_server.specs.Host.{Machine}
use Rattle.ua_server.specs.Passwords.{ReadsPassword, ReadsPasswords}

module _ {H A L R W I : Type 0} (machine : Machine H A L R W I) (settings : List ℕ) where
  abbrev One : List ℕ → Result (Option PasswordLine) (Unit {0}) → H → H → Type 0
  One path one a b = ReadsPassword machine settings path one a b

  abbrev All : List (List ℕ) → Result (Option (List PasswordLine)) (Unit {0}) → H → H → Type 0
  All paths read a b = ReadsPasswords machine settings paths read a b

  -- whatever the error that there isn't
  pub same-one : (E : Type 0) (path : List ℕ) (one : Option PasswordLine) (a b : H)
      → ReadsPassword {E = E} machine settings path (Ok one) a b → One path (Ok one) a b
  same-one E path None a b reads = reads
  same-one E path (Some line) a b reads = reads

  -- memory was wanting behind it
  pub starved-behind : (path : List ℕ) (line : PasswordLine) (a b : H)
      → One path (Ok (Some line)) a b → One path (Err tt) a b
  starved-behind path line a b reads = inr (reads.0, reads.1)

  -- one file more was read
  pub reads-more : (paths : List (List ℕ)) (lines : List PasswordLine) (path : List ℕ)
      (line : PasswordLine) (a b c : H) → All paths (Ok (Some lines)) a b
      → One path (Ok (Some line)) b c
      → All (paths ++ path ∷ []) (Ok (Some (lines ++ line ∷ []))) a c
  reads-more [] lines path line a b c (is, same) one =
      let none : lines ≡ [] = cc in (
        Ok (Some line),
        c,
        subst (λ (h : H). One path (Ok (Some line)) h c) same one,
        (
          Ok (Some []),
          (refl, refl),
          ap (λ (l : List PasswordLine). Ok (Some (l ++ line ∷ []))) none,
        ),
      )
  reads-more (p ∷ paths) lines path line a b c (
    Ok (Some l),
    between,
    reads,
    (Ok (Some ls), rest, is),
  )
      one =
      let same : lines ≡ l ∷ ls = cc in (
        Ok (Some l),
        between,
        reads,
        (
          Ok (Some (ls ++ line ∷ [])),
          reads-more paths ls path line between b c rest one,
          ap (λ (m : List PasswordLine). Ok (Some (m ++ line ∷ []))) same,
        ),
      )
  reads-more (p ∷ paths) lines path line a b c
      (Ok (Some l), between, reads, (Ok None, rest, is)) one =
      absurd cc
  reads-more (p ∷ paths) lines path line a b c
      (Ok (Some l), between, reads, (Err e, rest, is)) one =
      absurd cc
  reads-more (p ∷ paths) lines path line a b c (Ok None, between, reads, (is, same)) one = absurd cc
  reads-more (p ∷ paths) lines path line a b c (Err e, between, reads, (is, same)) one = absurd cc

  -- one file more can't be read, and no other is
  pub reads-none : (paths more : List (List ℕ)) (lines : List PasswordLine) (path : List ℕ)
      (a b c : H) → All paths (Ok (Some lines)) a b → One path (Ok None) b c
      → All (paths ++ path ∷ more) (Ok None) a c
  reads-none [] more lines path a b c (is, same) one =
      (Ok None, c, subst (λ (h : H). One path (Ok None) h c) same one, (refl, refl))
  reads-none (p ∷ paths) more lines path a b c
      (Ok (Some l), between, reads, (Ok (Some ls), rest, is)) one = (
        Ok (Some l),
        between,
        reads,
        (Ok None, reads-none paths more ls path between b c rest one, refl),
      )
  reads-none (p ∷ paths) more lines path a b c
      (Ok (Some l), between, reads, (Ok None, rest, is)) one = absurd cc
  reads-none (p ∷ paths) more lines path a b c
      (Ok (Some l), between, reads, (Err e, rest, is)) one = absurd cc
  reads-none (p ∷ paths) more lines path a b c (Ok None, between, reads, (is, same)) one = absurd cc
  reads-none (p ∷ paths) more lines path a b c (Err e, between, reads, (is, same)) one = absurd cc

  -- memory was wanting at one file more, and no other is read
  pub reads-starved : (paths more : List (List ℕ)) (lines : List PasswordLine) (path : List ℕ)
      (a b c : H) → All paths (Ok (Some lines)) a b → One path (Err tt) b c
      → All (paths ++ path ∷ more) (Err tt) a c
  reads-starved [] more lines path a b c (is, same) one =
      (Err tt, c, subst (λ (h : H). One path (Err tt) h c) same one, (refl, refl))
  reads-starved (p ∷ paths) more lines path a b c
      (Ok (Some l), between, reads, (Ok (Some ls), rest, is)) one = (
        Ok (Some l),
        between,
        reads,
        (Err tt, reads-starved paths more ls path between b c rest one, refl),
      )
  reads-starved (p ∷ paths) more lines path a b c
      (Ok (Some l), between, reads, (Ok None, rest, is)) one = absurd cc
  reads-starved (p ∷ paths) more lines path a b c
      (Ok (Some l), between, reads, (Err e, rest, is)) one = absurd cc
  reads-starved (p ∷ paths) more lines path a b c (Ok None, between, reads, (is, same)) one =
      absurd cc
  reads-starved (p ∷ paths) more lines path a b c (Err e, between, reads, (is, same)) one =
      absurd cc

  -- all of them stand before one, at it, and behind it
  parted : (paths : List (List ℕ)) (i : ℕ) (d : List ℕ) → i < length paths
      → take i paths ++ get_or paths i d ∷ drop (i + 1) paths ≡ paths
  parted paths i d within =
      ap (λ (l : List (List ℕ)). take i paths ++ l) (sym (drop_more paths i d within))
      ∙ take-append-drop i paths

  pub one-more : (paths : List (List ℕ)) (i : ℕ) (d : List ℕ) (lines : List PasswordLine)
      (line : PasswordLine) (a b c : H) → i < length paths
      → All (take i paths) (Ok (Some lines)) a b
      → One (get_or paths i d) (Ok (Some line)) b c
      → All (take (i + 1) paths) (Ok (Some (lines ++ line ∷ []))) a c
  one-more paths i d lines line a b c within all one =
      subst (λ (l : List (List ℕ)). All l (Ok (Some (lines ++ line ∷ []))) a c)
      (sym (take_more paths i d within))
      (reads-more (take i paths) lines (get_or paths i d) line a b c all one)

  pub none-there : (paths : List (List ℕ)) (i : ℕ) (d : List ℕ) (lines : List PasswordLine)
      (a b c : H) → i < length paths → All (take i paths) (Ok (Some lines)) a b
      → One (get_or paths i d) (Ok None) b c → All paths (Ok None) a c
  none-there paths i d lines a b c within all one =
      subst (λ (l : List (List ℕ)). All l (Ok None) a c) (parted paths i d within)
      (reads-none (take i paths) (drop (i + 1) paths) lines (get_or paths i d) a b c all one)

  pub starved-there : (paths : List (List ℕ)) (i : ℕ) (d : List ℕ) (lines : List PasswordLine)
      (a b c : H) → i < length paths → All (take i paths) (Ok (Some lines)) a b
      → One (get_or paths i d) (Err tt) b c → All paths (Err tt) a c
  starved-there paths i d lines a b c within all one =
      subst (λ (l : List (List ℕ)). All l (Err tt) a c) (parted paths i d within)
      (reads-starved (take i paths) (drop (i + 1) paths) lines (get_or paths i d) a b c all one)
