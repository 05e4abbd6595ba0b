-- What the matches give.
use Rattle.std.proofs.Common.{◌≡◌, Bool, true, false, eqb, List, [], ◌∷◌, Some, None, refl, subst, ap, sym, ◌∙◌, codes}
use Rattle.std.proofs.lemmas.Bool.{eq-eqb, false≢true}
use Rattle.std.specs.Prelude.{◌&&◌, Option, option_map, Result, Ok, Err, OnErr}
use Rattle.clap.specs.Words.{Row, Text}
use Rattle.command_line.specs.declared.line.Line.TheVariants.{Answer, Serve, Dump, Sync, History, Import, Check}
use Rattle.command_line.specs.Line.{IsLine, IsAnswer, IsServe, IsDump, IsSync, IsHistoryCommand, IsImportCommand, IsCheck, NoLine}

-- what holds of a value that is there, and of one that isn't
pub of-value : {T : Type 0} (o : Option T) (none : Type 0) (some : T → Type 0) → (o ≡ None → none)
    → ((x : T) → o ≡ Some x → some x) → elim o as (λ _. Type 0) [ None ↦ none | Some x ↦ some x ]
of-value None none some absent given = absent refl
of-value (Some x) none some absent given = given x refl

-- ---- one command a line

-- the texts are equal, byte for byte
abbrev is_same : Text → Text → Bool
is_same [] [] = true
is_same (a ∷ name) (b ∷ other) = eqb a b && is_same name other
is_same _ _ = false

same-self : (name : Text) → is_same name name ≡ true
same-self [] = refl
same-self (a ∷ name) = rw (eq-eqb a a refl) (same-self name)

abbrev name_of : Option (Text × List Row) → Text
name_of found = elim found [ None ↦ [] | Some pair ↦ pair.0 ]

abbrev rows_in : Option (Text × List Row) → List Row
rows_in found = elim found [ None ↦ [] | Some pair ↦ pair.1 ]

-- the matches name one command
name-differs : (matches : Option (Text × List Row)) (name other : Text) (rows found : List Row)
    → matches ≡ Some (name, rows) → matches ≡ Some (other, found) → is_same name other ≡ false
    → ⊥
name-differs matches name other rows found is was differs =
    let same : name ≡ other = ap name_of (sym is ∙ was) in
    let told : is_same name name ≡ false = subst (λ n. is_same name n ≡ false) (sym same) differs in
    false≢true (sym told ∙ same-self name)

-- with one list of rows
one-list : (matches : Option (Text × List Row)) (name other : Text) (rows found : List Row)
    → matches ≡ Some (name, rows) → matches ≡ Some (other, found) → found ≡ rows
one-list matches name other rows found is was = ap rows_in (sym was ∙ is)

-- where the rows of the command that the matches name give no line, the matches give none
module _ (m : Option (Text × List Row)) (rows : List Row) where
  pub no-answer : m ≡ Some (codes "answer", rows) → NoLine (IsAnswer rows) → NoLine (IsLine m)
  no-answer is none (Answer path flag moment) h = none (Answer path flag moment)
      (subst (λ (r : List Row). IsAnswer r (Answer path flag moment))
      (one-list m (codes "answer") (codes "answer") rows h.0 is h.1) h.2)
  no-answer is none _ h = name-differs m (codes "answer") _ rows h.0 is h.1 refl

  pub no-serve : m ≡ Some (codes "serve", rows) → NoLine (IsServe rows) → NoLine (IsLine m)
  no-serve is none (Serve path count) h = none (Serve path count)
      (subst (λ (r : List Row). IsServe r (Serve path count))
      (one-list m (codes "serve") (codes "serve") rows h.0 is h.1) h.2)
  no-serve is none _ h = name-differs m (codes "serve") _ rows h.0 is h.1 refl

  pub no-dump : m ≡ Some (codes "dump", rows) → NoLine (IsDump rows) → NoLine (IsLine m)
  no-dump is none (Dump path) h = none (Dump path)
      (subst (λ (r : List Row). IsDump r (Dump path))
      (one-list m (codes "dump") (codes "dump") rows h.0 is h.1) h.2)
  no-dump is none _ h = name-differs m (codes "dump") _ rows h.0 is h.1 refl

  pub no-sync : m ≡ Some (codes "sync", rows) → NoLine (IsSync rows) → NoLine (IsLine m)
  no-sync is none (Sync path asked) h = none (Sync path asked)
      (subst (λ (r : List Row). IsSync r (Sync path asked))
      (one-list m (codes "sync") (codes "sync") rows h.0 is h.1) h.2)
  no-sync is none _ h = name-differs m (codes "sync") _ rows h.0 is h.1 refl

  pub no-history : m ≡ Some (codes "history", rows) → NoLine (IsHistoryCommand rows) → NoLine (IsLine m)
  no-history is none (History path asked) h = none (History path asked)
      (subst (λ (r : List Row). IsHistoryCommand r (History path asked))
      (one-list m (codes "history") (codes "history") rows h.0 is h.1) h.2)
  no-history is none _ h = name-differs m (codes "history") _ rows h.0 is h.1 refl

  pub no-import : m ≡ Some (codes "import", rows) → NoLine (IsImportCommand rows) → NoLine (IsLine m)
  no-import is none (Import path asked) h = none (Import path asked)
      (subst (λ (r : List Row). IsImportCommand r (Import path asked))
      (one-list m (codes "import") (codes "import") rows h.0 is h.1) h.2)
  no-import is none _ h = name-differs m (codes "import") _ rows h.0 is h.1 refl

  pub no-check : m ≡ Some (codes "check", rows) → NoLine (IsCheck rows) → NoLine (IsLine m)
  no-check is none (Check path flag) h = none (Check path flag)
      (subst (λ (r : List Row). IsCheck r (Check path flag))
      (one-list m (codes "check") (codes "check") rows h.0 is h.1) h.2)
  no-check is none _ h = name-differs m (codes "check") _ rows h.0 is h.1 refl

-- what is known of an option's value, said of the option
pub mapped : {T U : Type 0} (f : T → U) (o p : Option T) (m : Option U) → option_map f o ≡ m → o ≡ p
    → m ≡ option_map f p
mapped f o p m same e = sym same ∙ ap (option_map f) e

-- what is said of a refusal, said of it by what follows from that
pub refused-so : {T E P Q : Type 0} (result : Result T E) → (P → Q) → OnErr result P
    → OnErr result Q
refused-so (Ok line) f h = tt
refused-so (Err fault) f h = f h
