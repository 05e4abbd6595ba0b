-- Where a settings file is refused, and how that is told.
use Rattle.std.specs.Prelude.{◌≡◌, ◌+◌, ◌==◌, ◌<◌, ◌&&◌, ◌++◌, ℕ, Bool, not, List, [], ◌∷◌, length, map, codes, nat_eq, nat_le, nat_lt, Option, None, Some, is_some, option_map, if◌then◌else◌}
use Rattle.std.specs.Option.{option_map_or, option_or}
use Rattle.std.specs.List.{list_all, list_any, position_from}
use Rattle.std.specs.Cmp.Lexicographic.{pointwise}
use Rattle.std.specs.Fmt.{decimal}
use Rattle.toml.specs.Data.{Members}
use Rattle.ua_space.specs.Plan.{type_number}
use Rattle.ua_settings.specs.declared.keys.Section.{Section}
use Rattle.ua_settings.specs.declared.keys.Section.TheVariants.{Document, Archive, Server, User, Folder, Variable, Peer, Door, Web, Log}
use Rattle.ua_settings.specs.declared.password.PasswordLine.{PasswordLine}
use Rattle.ua_settings.specs.declared.place.Place.{Place}
use Rattle.ua_settings.specs.declared.place.Place.TheVariants.{Line, Key, Nodes}
use Rattle.ua_settings.specs.File.{tables, text_at}
use Rattle.ua_settings.specs.Judging.{Spot, first_wrong}

-- ---- where the nodes make no address space

-- a key in the table at this place, if there is one
abbrev pub spot_at : Section → List ℕ → Option ℕ → Option Spot
spot_at section key place =
    option_map (λ n. record { section = section; number = n; key = key }) place

-- the number of the first of these ids that stands before it or was seen; the first one has this
-- number
abbrev pub repeated_from : ℕ → List (List ℕ) → List (List ℕ) → Option ℕ
repeated_from n seen [] = None
repeated_from n seen (id ∷ ids) =
    if list_any (λ other. pointwise nat_eq other id) seen then Some n
    else repeated_from (n + 1) (seen ++ id ∷ []) ids

-- the number of the first variable whose type is none
abbrev pub untyped : List Members → Option ℕ
untyped variables =
    position_from (λ v. not (is_some (type_number (text_at (codes "type") v)))) 1 variables

-- the first of these that is there: a variable of an unknown type, a folder and a variable whose id
-- stands before
abbrev pub first_there : Option ℕ → Option ℕ → Option ℕ → Option Spot
first_there untyped folder variable =
    option_or (spot_at Variable (codes "type") untyped)
    (option_or (spot_at Folder (codes "id") folder) (spot_at Variable (codes "id") variable))

-- the first node that is wrong; the ids of folders and variables are to differ
abbrev pub node_spot : List Members → List Members → Option Spot
node_spot folders variables =
    let ids = map (text_at (codes "id")) in
    first_there (untyped variables) (repeated_from 1 [] (ids folders))
    (repeated_from 1 (ids folders) (ids variables))

-- all of them where there are too many, else the first that is wrong
abbrev pub place_among : List Members → List Members → Place
place_among folders variables =
    if nat_lt 1000 (length folders + length variables)
    then Nodes (length folders + length variables)
    else option_map_or (λ spot. Key spot.section spot.number spot.key) (node_spot folders variables)
    (Nodes (length folders + length variables))

-- ---- where a file is refused

-- the number of a line, counted from 1
abbrev pub IsLineNumber : Place → Type 0
IsLineNumber (Line number) = 0 < number
IsLineNumber place = ⊥

-- in a document: its first wrong key; where none is wrong, what makes its nodes no address space
abbrev pub place_in : List PasswordLine → Members → Place
place_in lines document =
    option_map_or (λ found. Key found.1.section found.1.number found.1.key)
    (first_wrong lines document)
    (place_among (tables document Folder) (tables document Variable))

-- of a text that is no document a line, else the place in the document
abbrev pub IsPlaceOf : List PasswordLine → Option Members → Place → Type 0
IsPlaceOf lines None place = IsLineNumber place
IsPlaceOf lines (Some document) place = place ≡ place_in lines document

-- ---- how it is told

-- which table it is, among those of its section
abbrev pub heading : Section → ℕ → List ℕ
heading Document number = []
heading Archive number = codes "[archive] "
heading Server number = codes "[server] "
heading User number = codes "[[user]] " ++ decimal number ++ codes ", "
heading Folder number = codes "[[folder]] " ++ decimal number ++ codes ", "
heading Variable number = codes "[[variable]] " ++ decimal number ++ codes ", "
heading Peer number = codes "[[peer]] " ++ decimal number ++ codes ", "
heading Door number = codes "[door] "
heading Web number = codes "[web] "
heading Log number = codes "[log] "

-- a byte of a text without control characters
abbrev pub is_shown : ℕ → Bool
is_shown byte = nat_le 32 byte && not (byte == 127)

-- a question mark stands for what is no printing ASCII
abbrev pub plain : ℕ → ℕ
plain byte = if nat_le 32 byte && nat_lt byte 127 then byte else 63

-- a key is told as it is, but an empty one by two quotes, and one with a control character in
-- printing ASCII alone
abbrev pub shown_key : List ℕ → List ℕ
shown_key key =
    if length key == 0 then codes "\"\"" else if list_all is_shown key then key else map plain key

-- the text that names a place in the settings
abbrev pub place_text : Place → List ℕ
place_text (Line number) = codes "line " ++ decimal number
place_text (Nodes count) = decimal count ++ codes " folders and variables"
place_text (Key section number key) = heading section number ++ shown_key key
