-- The password files that settings name, read beside the settings' own.
use Rattle.std.specs.Prelude.{◌≡◌, ◌⊎◌, ℕ, ◌==◌, List, [], ◌∷◌, Option, None, Some, option_map, Result, Ok, Err}
use Rattle.std.specs.List.{before_first}
use Rattle.std.specs.Path.{path_with_file_name}
use Rattle.std.specs.Result.{result_map_both}
use Rattle.ua_settings.specs.declared.password.PasswordLine.{PasswordLine}
use Rattle.ua_server.specs.Host.{Machine}

-- the first line of a text, without its end: a line feed, or a carriage return
abbrev pub first_line : List ℕ → List ℕ
first_line text = before_first (λ byte. byte == 13) (before_first (λ byte. byte == 10) text)

-- the file of this path beside the settings' was read, with this text; None where it can't be
abbrev pub HasRead : {H A L R W I : Type 0} → Machine H A L R W I → (settings path : List ℕ)
    → Option (List ℕ) → (old new : H) → Type 0
HasRead machine settings path text old new =
    machine.reads old (path_with_file_name settings path) text new

-- the text of the file of this path beside the settings'; None where it can't be read; Err where
-- memory for its path was wanting, and no file was read
abbrev pub ReadsFile : {H A L R W I E : Type 0} → Machine H A L R W I → (settings path : List ℕ)
    → Result (Option (List ℕ)) E → (old new : H) → Type 0
ReadsFile machine settings path (Ok text) old new = HasRead machine settings path text old new
ReadsFile machine settings path (Err starved) old new = new ≡ old

-- what the password file of this path says; None where it can't be read; Err where memory was
-- wanting, before it was read or after
abbrev pub ReadsPassword : {H A L R W I E : Type 0} → Machine H A L R W I → (settings path : List ℕ)
    → Result (Option PasswordLine) E → (old new : H) → Type 0
ReadsPassword machine settings path (Ok (Some line)) old new =
    (text : List ℕ) × HasRead machine settings path (Some text) old new
    × (line ≡ record { path = path; line = first_line text })
ReadsPassword machine settings path (Ok None) old new = HasRead machine settings path None old new
ReadsPassword machine settings path (Err starved) old new =
    (new ≡ old)
    ⊎ ((text : List ℕ) × HasRead machine settings path (Some text) old new)

-- one line before others, if these were read
abbrev pub with_line : {E : Type 0} → PasswordLine → Result (Option (List PasswordLine)) E
    → Result (Option (List PasswordLine)) E
with_line line read = result_map_both (option_map (λ lines. line ∷ lines)) (λ starved. starved) read

-- what the password files of these paths say, read one after the other till one can't be, or memory
-- is wanting
abbrev pub ReadsPasswords : {H A L R W I E : Type 0} → Machine H A L R W I → (settings : List ℕ)
    → (paths : List (List ℕ)) → Result (Option (List PasswordLine)) E → (old new : H) → Type 0
ReadsPasswords machine settings [] read old new = (read ≡ Ok (Some [])) × (new ≡ old)
ReadsPasswords {H} {A} {L} {R} {W} {I} {E} machine settings (path ∷ paths) read old new =
    (one : Result (Option PasswordLine) E) × (between : H)
    × ReadsPassword machine settings path one old between
    × elim one [
      | Ok (Some line) ↦ (rest : Result (Option (List PasswordLine)) E)
          × ReadsPasswords machine settings paths rest between new × (read ≡ with_line line rest)
      | Ok None ↦ (read ≡ Ok None) × (new ≡ between)
      | Err starved ↦ (read ≡ Err starved) × (new ≡ between)
    ]
