-- The first wrong key: of a map's keys, of a section's keys, and of tables one after the other.
use Rattle.std.proofs.Common.{◌≡◌, ◌+◌, ◌<◌, ℕ, not, List, map, find, refl, ap, sym, ◌∙◌, Bool, Option, None, Some, option_map, length, get_or, drop, string_bytes, String, Global, Bor}
use Rattle.std.proofs.lemmas.List.{drop_more}
use Rattle.std.specs.Map.{keys_of}
use Rattle.std.specs.Option.{option_copied}
use Rattle.toml.specs.Data.{Members}
use Rattle.toml.specs.View.{members_view}
use Rattle.toml.specs.declared.value.Value.{Value}
use Rattle.ua_settings.specs.declared.keys.Key.{Key}
use Rattle.ua_settings.specs.declared.keys.Section.{Section}
use Rattle.ua_settings.specs.declared.keys.Wrong.{Wrong}
use Rattle.ua_settings.specs.File.{Names, Rule, rules, keys_in}
use Rattle.std.specs.Option.{option_or}
use Rattle.ua_settings.specs.declared.judging.Spot.{Spot as Found}
use Rattle.ua_settings.specs.declared.password.PasswordLine.{PasswordLine}
use Rattle.ua_settings.specs.Judging.{Spot, first_some, is_key, wrong_at, wrong_key, wrong_from}
use Rattle.ua_settings.proofs.FileParts.{name_of, or_later}
use Rattle.ua_settings.specs.Keys.{rule_of, spot_of}
use Rattle.ua_settings.proofs.Mapped.{find_of_mapped, found_rule}
use Rattle.ua_settings.proofs.Tables.{keys_of_map}

bytes_of_ref : (found : Option (Bor (String Global)))
    → option_map (λ key. string_bytes key.now) found ≡ option_map string_bytes (option_copied found)
bytes_of_ref None = refl
bytes_of_ref (Some key) = refl

pub unknown_found : (section : Section) (entries : List (String Global × Value))
    (found : Option (Bor (String Global)))
    → option_copied found ≡ find (λ key. not (is_key section (string_bytes key))) (keys_of entries)
    → option_map (λ key. string_bytes key.now) found
    ≡ find (λ key. not (is_key section key)) (keys_in (members_view entries))
unknown_found section entries found same =
    bytes_of_ref found ∙ ap (option_map string_bytes) same
    ∙ sym (find_of_mapped string_bytes (λ key. not (is_key section key)) (keys_of entries))
    ∙ ap (find (λ key. not (is_key section key))) (keys_of_map entries)

name_of_ref : (found : Option (Bor Key))
    → option_map (λ key. key.now.name.now) found
    ≡ option_map (λ key. name_of (rule_of key)) (option_copied found)
name_of_ref None = refl
name_of_ref (Some key) = refl

pub rule_found : (test : Rule → Bool) (section : Section) (keys : List Key)
    (found : Option (Bor Key))
    → map rule_of keys ≡ rules section → option_copied found ≡ find (λ key. test (rule_of key)) keys
    → option_map (λ key. key.now.name.now) found ≡ option_map name_of (find test (rules section))
rule_found test section keys found listed same =
    name_of_ref found ∙ ap (option_map (λ key. name_of (rule_of key))) same
    ∙ sym (found_rule test section keys listed)

pub goes_on : (names : Names) (wrong : Wrong) (section : Section) (n i : ℕ) (tables : List Members)
    (d : Members) → i < length tables
    → wrong_key names wrong section (get_or tables i d) ≡ None
    → wrong_from names wrong section n (drop i tables)
    ≡ wrong_from names wrong section (n + 1) (drop (i + 1) tables)
goes_on names wrong section n i tables d within none =
    ap (wrong_from names wrong section n) (drop_more tables i d within)
    ∙ ap (λ key. or_later section n key (wrong_from names wrong section (n + 1)
    (drop (i + 1) tables))) none

pub stops : (names : Names) (wrong : Wrong) (section : Section) (n i : ℕ) (tables : List Members)
    (d : Members) (key : List ℕ) → i < length tables
    → wrong_key names wrong section (get_or tables i d) ≡ Some key
    → wrong_from names wrong section n (drop i tables)
    ≡ Some (record { section = section; number = n; key = key })
stops names wrong section n i tables d key within found =
    ap (wrong_from names wrong section n) (drop_more tables i d within)
    ∙ ap (λ key. or_later section n key (wrong_from names wrong section (n + 1)
    (drop (i + 1) tables))) found

-- where the tables of a section hold nothing wrong, which was found by equal names
pub section_passed : (names same : Names) (wrong : Wrong) (section : Section)
    (tables : List Members) (found : Option Found) → names ≡ same
    → option_map spot_of found ≡ wrong_from names wrong section 1 tables → found ≡ None
    → wrong_from same wrong section 1 tables ≡ None
section_passed names same wrong section tables found is told none =
    ap (λ n. wrong_from n wrong section 1 tables) (sym is) ∙ sym told ∙ ap (option_map spot_of) none

-- the first behind a place where none is
pub goes_on_behind : {A B : Type 0} (f : A → Option B) (xs : List A) (i : ℕ) (d : A)
    → i < length xs → f (get_or xs i d) ≡ None
    → first_some f (drop i xs) ≡ first_some f (drop (i + 1) xs)
goes_on_behind f xs i d within none =
    ap (first_some f) (drop_more xs i d within)
    ∙ ap (λ found. option_or found (first_some f (drop (i + 1) xs))) none

-- ---- the ways one after the other

abbrev pub told_at : List PasswordLine → Members → Wrong → Option (Wrong × Spot)
told_at lines document wrong = option_map (λ spot. (wrong, spot)) (wrong_at lines document wrong)

-- where nothing is wrong in a way, which was found by equal lines
pub way_passed : (lines same : List PasswordLine) (document : Members) (wrong : Wrong)
    (found : Option Found) → lines ≡ same
    → option_map spot_of found ≡ wrong_at lines document wrong → found ≡ None
    → told_at same document wrong ≡ None
way_passed lines same document wrong found is told none =
    ap (option_map (λ spot. (wrong, spot)))
    (ap (λ ls. wrong_at ls document wrong) (sym is) ∙ sym told ∙ ap (option_map spot_of) none)
