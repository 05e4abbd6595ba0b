-- What settings say, a fact a line.
use Rattle.std.specs.Prelude.{ℕ, Bool, ◌==◌, nat_lt, List, [], ◌∷◌, ◌++◌, length, codes, Option, None, Some, if◌then◌else◌}
use Rattle.std.specs.Fmt.{decimal}
use Rattle.uuid.specs.Text.{hyphenated_text, lower}
use Rattle.ua_session.specs.Users.{Allowed}
use Rattle.ua_session.specs.declared.identity.Access.TheVariants.{Read, Write}
use Rattle.ua_settings.specs.declared.door.DoorSettings.{DoorSettings}
use Rattle.ua_settings.specs.declared.web.WebSettings.{WebSettings}
use Rattle.ua_settings.specs.Settings.{SettingsValues}
use Rattle.ua_space.specs.declared.layout.Layout.{Layout}
use Rattle.history_report.specs.Tables.{legible}
use Rattle.settings_check.specs.Nodes.{variable_ids}

-- a number with its noun, in the singular or the plural
abbrev pub counted_noun : ℕ → (one more : List ℕ) → List ℕ
counted_noun n one more = decimal n ++ (if n == 1 then one else more)

-- which replica of which archive it is
abbrev pub archive_line : SettingsValues → List ℕ
archive_line s =
    codes "archive " ++ hyphenated_text lower s.archive ++ codes ", replica " ++ decimal s.replica

-- where the archive's values are kept
abbrev pub store_line : SettingsValues → List ℕ
store_line s =
    elim s.store [
      | None ↦ codes "no store: values are kept in memory and lost at the end"
      | Some path ↦ codes "store " ++ legible path
    ]

-- where the server listens, and where clients are told that it does
abbrev pub listen_line : SettingsValues → List ℕ
listen_line s =
    codes "listens at " ++ legible s.listen ++ codes "; clients are told " ++ legible s.url

-- whether there are users with a name
abbrev pub named_words : Allowed → List ℕ
named_words users =
    if nat_lt 0 (length users.named) then codes "there are users with a name"
    else codes "there are no users with a name"

-- what a user without a name may do
abbrev pub anonymous_words : Allowed → List ℕ
anonymous_words users =
    if users.anonymous then elim users.anonymous_access
    [ Write ↦ codes "allowed, may write" | Read ↦ codes "allowed, reads only" ]
    else codes "not allowed"

-- who may use the server
abbrev pub users_line : Allowed → List ℕ
users_line users =
    named_words users ++ codes "; without a name: " ++ anonymous_words users

-- how many variables the server has, and how many folders
abbrev pub variables_line : Layout → List ℕ
variables_line space =
    counted_noun (length (variable_ids space)) (codes " variable, ") (codes " variables, ")
    ++ counted_noun (length space.folders) (codes " folder") (codes " folders")

-- how many peers the server calls by itself
abbrev pub called_words : ℕ → List ℕ
called_words n = counted_noun n (codes " peer is called; ") (codes " peers are called; ")

-- where peers come to the server
abbrev pub door_words : Option DoorSettings → List ℕ
door_words door =
    elim door [
      | None ↦ codes "peers come to the clients' address"
      | Some own ↦ codes "the door listens at " ++ legible own.listen
    ]

-- which peers it calls, and where others come to it
abbrev pub peers_line : SettingsValues → List ℕ
peers_line s = called_words (length s.peers) ++ door_words s.door

-- where browsers come to it, and how many of their connections are served at a time
abbrev pub web_line : WebSettings → List ℕ
web_line own =
    codes "browsers come to " ++ legible own.listen ++ codes ", "
    ++ decimal own.connections ++ codes " at a time"

-- the same, where they come
abbrev pub web_facts : Option WebSettings → List (List ℕ)
web_facts web = elim web [ None ↦ [] | Some own ↦ web_line own ∷ [] ]

-- what all settings say
abbrev pub plain_facts : SettingsValues → List (List ℕ)
plain_facts s =
    archive_line s ∷ store_line s ∷ listen_line s ∷ users_line s.users ∷ variables_line s.space
    ∷ peers_line s ∷ []

-- that what happens is told, where it is
abbrev pub events_facts : (events : Bool) → List (List ℕ)
events_facts events =
    if events then codes "what happens is told on standard error, a line each" ∷ [] else []

-- after how many refused logins from one address its next ones wait
abbrev pub logins_line : (most : ℕ) → List ℕ
logins_line most =
    codes "after " ++ counted_noun most (codes " refused login") (codes " refused logins")
    ++ codes " from one address within a minute its next ones are answered a second later each"

-- the same, where they wait
abbrev pub logins_facts : (logins : Option ℕ) → List (List ℕ)
logins_facts logins = elim logins [ None ↦ [] | Some most ↦ logins_line most ∷ [] ]

-- what settings say
abbrev pub settings_facts : SettingsValues → List (List ℕ)
settings_facts s =
    plain_facts s ++ web_facts s.web ++ events_facts s.events ++ logins_facts s.logins
