-- What the steps say by which a file is judged.
use Rattle.std.specs.Prelude.{◌+◌, ◌==◌, ◌&&◌, ◌||◌, ℕ, ℤ, pos, negsuc, Bool, false, not, List, [], ◌∷◌, length, codes, nat_eq, nat_le, Option, None, is_some, is_none, option_map, find}
use Rattle.std.specs.Option.{option_map_or, option_or}
use Rattle.std.specs.List.{list_any}
use Rattle.std.specs.Cmp.Lexicographic.{pointwise}
use Rattle.toml.specs.Data.{Members, get_member}
use Rattle.uuid.specs.Text.{parsed}
use Rattle.ua_settings.specs.declared.keys.Section.{Section}
use Rattle.ua_settings.specs.declared.keys.Wrong.{Wrong}
use Rattle.ua_settings.specs.declared.keys.Wrong.TheVariants.{Unknown, Missing, Bad}
use Rattle.ua_settings.specs.declared.password.PasswordLine.{PasswordLine}
use Rattle.ua_settings.specs.File.{Names, Rule, fits, has_instead, is_name, keys_in, names_in, rules, sections, tables}

-- ---- what a key must hold

-- it is there, and passes
abbrev pub test : {A : Type 0} → (A → Bool) → Option A → Bool
test p given = option_map_or p given false

abbrev pub is_short : List ℕ → Bool
is_short text = nat_le (length text) 65536

abbrev pub is_user_name : (users : List ℕ → ℕ) → List ℕ → Bool
is_user_name users name =
    is_name name && (not (pointwise nat_eq name (codes "anonymous")) && (users name == 1))

abbrev pub is_replica : ℤ → Bool
is_replica v = elim v [ pos n ↦ nat_le 1 n && nat_le n 64 | negsuc n ↦ false ]

abbrev pub is_id : List ℕ → Bool
is_id text = is_some (parsed text)

-- ---- where a document is wrong

-- the table may have this key
abbrev pub is_key : Section → List ℕ → Bool
is_key section key = list_any (λ rule. pointwise nat_eq key rule.name) (rules section)

-- the table has to have this key, or the one instead, and hasn't
abbrev pub is_missing : Members → Rule → Bool
is_missing members rule =
    rule.required && (not (has_instead members rule) && is_none (get_member rule.name members))

-- the key is there and doesn't hold what it must, or the one instead is there too
abbrev pub is_bad : Names → Members → Rule → Bool
is_bad names members rule =
    test (λ value. has_instead members rule || not (fits names rule.holds value))
    (get_member rule.name members)

-- the first key of a table that is wrong: one that the table may not have, one that it has to have,
-- or one that doesn't hold what it must
abbrev pub wrong_key : Names → Wrong → Section → Members → Option (List ℕ)
wrong_key names Unknown section members = find (λ key. not (is_key section key)) (keys_in members)
wrong_key names Missing section members =
    option_map (λ rule. rule.name) (find (is_missing members) (rules section))
wrong_key names Bad section members =
    option_map (λ rule. rule.name) (find (is_bad names members) (rules section))

-- a key in the table of this number, from 1, among those of a section
abbrev pub Spot : Type 0
Spot = record { section : Section; number : ℕ; key : List ℕ }

-- the first wrong key of these tables of a section, of which the first has this number
abbrev pub wrong_from : Names → Wrong → Section → ℕ → List Members → Option Spot
wrong_from names wrong section number [] = None
wrong_from names wrong section number (members ∷ more) =
    option_or
    (option_map (λ key. record { section = section; number = number; key = key })
    (wrong_key names wrong section members)) (wrong_from names wrong section (number + 1) more)

-- the first that is there
abbrev pub first_some : {A B : Type 0} → (A → Option B) → List A → Option B
first_some f [] = None
first_some f (a ∷ more) = option_or (f a) (first_some f more)

-- the first wrong key of a document
unfoldable pub wrong_at : List PasswordLine → Members → Wrong → Option Spot
wrong_at lines document wrong =
    first_some
    (λ section. wrong_from (names_in lines document) wrong section 1 (tables document section))
    sections

-- the first way in which a document is wrong, unknown keys before missing ones and these before bad
-- ones, and where
abbrev pub first_wrong : List PasswordLine → Members → Option (Wrong × Spot)
first_wrong lines document =
    first_some (λ wrong. option_map (λ spot. (wrong, spot)) (wrong_at lines document wrong))
    (Unknown ∷ Missing ∷ Bad ∷ [])
