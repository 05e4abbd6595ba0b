-- How a document is wrong, and where it is first wrong so.
use Rattle.std.proofs.Common.{◌≡◌, ◌+◌, ◌||◌, ℕ, Bool, true, false, cond, not, List, [], ◌∷◌, find, refl, ap, sym, ◌∙◌, Option, None, Some, option_map, is_some, Result, Err, inl, inr}
use Rattle.std.specs.Option.{option_or}
use Rattle.std.specs.List.{list_any}
use Rattle.toml.specs.Data.{Members}
use Rattle.ua_settings.specs.declared.keys.Section.{Section}
use Rattle.ua_settings.specs.declared.keys.Wrong.{Wrong}
use Rattle.ua_settings.specs.declared.keys.Wrong.TheVariants.{Unknown, Missing, Bad}
use Rattle.ua_settings.specs.declared.password.PasswordLine.{PasswordLine}
use Rattle.ua_settings.specs.File.{Names, names_in, sections, tables, keys_in, rules, is_wrong, first_refusal}
use Rattle.ua_settings.specs.declared.judging.Spot.{Spot as Found}
use Rattle.ua_settings.specs.Keys.{refusal_of}
use Rattle.ua_settings.specs.Judging.{Spot, first_some, first_wrong, is_bad, is_key, is_missing, wrong_at, wrong_from, wrong_key}
use Rattle.ua_settings.specs.declared.fault.SettingsFault.{SettingsFault}
use Rattle.ua_settings.specs.declared.fault.SettingsFault.TheVariants.{BadValue, MissingKey, UnknownKey}
use Rattle.ua_settings.specs.Settings.{SettingsValues}
use Rattle.ua_settings.specs.Reading.{settings_in, IsAcceptedOrStarved, IsReadOrStarved}
use Rattle.ua_settings.proofs.FileParts.{name_of, wrong_in}

any_found : {A : Type 0} (test : A → Bool) (xs : List A) → list_any test xs ≡ is_some (find test xs)
any_found test [] = refl
any_found test (x ∷ xs) = by (test x) (any_found test xs)
  where
    by : (b : Bool) → list_any test xs ≡ is_some (find test xs)
        → (b || list_any test xs) ≡ is_some (cond b (Some x) (find test xs))
    by true later = refl
    by false later = later

some_mapped : {A B : Type 0} (f : A → B) (o : Option A) → is_some o ≡ is_some (option_map f o)
some_mapped f None = refl
some_mapped f (Some a) = refl

some_either : {A : Type 0} (x y : Option A) (b : Bool) → b ≡ is_some y
    → (is_some x || b) ≡ is_some (option_or x y)
some_either None y b later = later
some_either (Some a) y b later = refl

in_table : (names : Names) (wrong : Wrong) (section : Section) (members : Members)
    → is_wrong names wrong section members ≡ is_some (wrong_key names wrong section members)
in_table names Unknown section members =
    any_found (λ key. not (is_key section key)) (keys_in members)
in_table names Missing section members =
    any_found (is_missing members) (rules section)
    ∙ some_mapped name_of (find (is_missing members) (rules section))
in_table names Bad section members =
    any_found (is_bad names members) (rules section)
    ∙ some_mapped name_of (find (is_bad names members) (rules section))

in_tables : (names : Names) (wrong : Wrong) (section : Section) (n : ℕ) (list : List Members)
    → list_any (is_wrong names wrong section) list ≡ is_some (wrong_from names wrong section n list)
in_tables names wrong section n [] = refl
in_tables names wrong section n (members ∷ more) =
    ap (λ b. b || list_any (is_wrong names wrong section) more)
    (in_table names wrong section members
    ∙ some_mapped _ (wrong_key names wrong section members))
    ∙ some_either (option_map (λ key. record { section = section; number = n; key = key })
    (wrong_key names wrong section members)) (wrong_from names wrong section (n + 1) more) _
    (in_tables names wrong section (n + 1) more)

in_sections : (lines : List PasswordLine) (document : Members) (wrong : Wrong)
    (sections : List Section)
    → list_any (λ section. list_any (is_wrong (names_in lines document) wrong section)
    (tables document section)) sections
    ≡ is_some (first_some (wrong_in lines document wrong) sections)
in_sections lines document wrong [] = refl
in_sections lines document wrong (section ∷ sections) =
    ap (λ b. b || list_any (λ section.
    list_any (is_wrong (names_in lines document) wrong section) (tables document section)) sections)
    (in_tables (names_in lines document) wrong section 1 (tables document section))
    ∙ some_either (wrong_in lines document wrong section)
    (first_some (wrong_in lines document wrong) sections) _
    (in_sections lines document wrong sections)

first_kind : (test : Wrong → Bool) (spot : Wrong → Option Spot)
    → ((wrong : Wrong) → test wrong ≡ is_some (spot wrong)) → (wrongs : List Wrong)
    → find test wrongs ≡ option_map (λ (p : Wrong × Spot). p.0)
    (first_some (λ wrong. option_map (λ s. (wrong, s)) (spot wrong)) wrongs)
first_kind test spot same [] = refl
first_kind test spot same (wrong ∷ wrongs) =
    ap (λ b. cond b (Some wrong) (find test wrongs)) (same wrong)
    ∙ by (spot wrong) (first_kind test spot same wrongs)
  where
    by : (o : Option Spot) → find test wrongs
        ≡ option_map (λ (p : Wrong × Spot).
        p.0) (first_some (λ wrong. option_map (λ s. (wrong, s)) (spot wrong)) wrongs)
        → cond (is_some o) (Some wrong) (find test wrongs)
        ≡ option_map (λ (p : Wrong × Spot).
        p.0) (option_or (option_map (λ s. (wrong, s)) o)
        (first_some (λ wrong. option_map (λ s. (wrong, s)) (spot wrong)) wrongs))
    by None later = later
    by (Some s) later = refl

pub refused_so : (lines : List PasswordLine) (document : Members)
    → first_refusal lines document
    ≡ option_map (λ (p : Wrong × Spot). p.0) (first_wrong lines document)
unfolding wrong_at
refused_so lines document =
    first_kind (λ wrong. list_any (λ section.
    list_any (is_wrong (names_in lines document) wrong section) (tables document section))
    sections)
    (wrong_at lines document) (λ wrong. in_sections lines document wrong
    sections)
    (Unknown ∷ Missing ∷ Bad ∷ [])

-- what was found tells how the document is wrong
pub kind_of : (lines : List PasswordLine) (document : Members) (found : Option (Wrong × Found))
    → option_map refusal_of found ≡ first_wrong lines document
    → first_refusal lines document ≡ option_map (λ (p : Wrong × Found). p.0) found
kind_of lines document None same = refused_so lines document
    ∙ ap (option_map (λ (p : Wrong × Spot). p.0)) (sym same)
kind_of lines document (Some (wrong, spot)) same =
    refused_so lines document ∙ ap (option_map (λ (p : Wrong × Spot). p.0)) (sym same)

-- what a document gives, by how it is wrong
abbrev given : List PasswordLine → Members → Option Wrong → Result SettingsValues SettingsFault
given lines document found = elim found [
  | None ↦ settings_in lines document
  | Some Unknown ↦
      Err UnknownKey
  | Some Missing ↦ Err MissingKey
  | Some Bad ↦ Err BadValue
]

fault_given : (lines : List PasswordLine) (document : Members) (wrong : Wrong)
    → Err (elim wrong [ Unknown ↦ UnknownKey | Missing ↦ MissingKey | Bad ↦ BadValue ])
    ≡ given lines document (Some wrong)
fault_given lines document Unknown = refl
fault_given lines document Missing = refl
fault_given lines document Bad = refl

pub refused_told : (lines : List PasswordLine) (document : Members) (wrong : Wrong)
    (fault : SettingsFault)
    → first_refusal lines document ≡ Some wrong
    → fault ≡ (elim wrong [ Unknown ↦ UnknownKey | Missing ↦ MissingKey | Bad ↦ BadValue ])
    → IsReadOrStarved lines (Some document) (Err fault)
refused_told lines document wrong fault is same =
    inr (ap Err same ∙ fault_given lines document wrong ∙ sym (ap (given lines document) is))

pub accepted_told : (lines : List PasswordLine) (document : Members)
    (result : Result SettingsValues SettingsFault)
    → first_refusal lines document ≡ None → IsAcceptedOrStarved lines document result
    → IsReadOrStarved lines (Some document) result
accepted_told lines document result none (inl starved) = inl starved
accepted_told lines document result none (inr is) = inr (is ∙ sym (ap (given lines document) none))
