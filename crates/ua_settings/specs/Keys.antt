-- The keys and places of the code without where their texts lie in memory.
use Rattle.std.specs.Borrow.{Bor}
use Rattle.std.specs.Prelude.{List, ℕ, Bool, is_some, option_copied, unwrap_or}
use Rattle.std.specs.HashMap.{HashMap, get_by}
use Rattle.std.specs.Str.{bytes_eq}
use Rattle.ua_settings.specs.declared.keys.Key.{Key}
use Rattle.ua_settings.specs.declared.judging.Known.{Known}
use Rattle.ua_settings.specs.declared.judging.Spot.{Spot as Found}
use Rattle.ua_settings.specs.declared.keys.Wrong.{Wrong}
use Rattle.ua_settings.specs.File.{Rule, Names}
use Rattle.ua_settings.specs.Judging.{Spot}

-- how often a text was counted
abbrev pub count_at : {S : Type 0} → HashMap (Bor (List ℕ)) ℕ S → List ℕ → ℕ
count_at counts text = unwrap_or (get_by (λ key. bytes_eq text key.now) counts) 0

-- whether it was counted
abbrev pub is_counted : {S : Type 0} → HashMap (Bor (List ℕ)) ℕ S → List ℕ → Bool
is_counted counts text = is_some (get_by (λ key. bytes_eq text key.now) counts)

abbrev pub rule_of : Key → Rule
rule_of key =
    record {
      name = key.name.now;
      required = key.required;
      instead = option_copied key.instead;
      holds = key.holds;
    }

abbrev pub known_of : Known → Names
known_of known =
    record {
      users = count_at known.users;
      folders = is_counted known.folders;
      passwords = known.passwords.now;
    }

abbrev pub spot_of : Found → Spot
spot_of found = record { section = found.section; number = found.number; key = found.key.now }

abbrev pub refusal_of : Wrong × Found → Wrong × Spot
refusal_of (wrong, found) = (wrong, spot_of found)
