-- What a settings file says (TOML 1.1): its tables, their keys, what each key must hold, and how a
-- file is wrong.
use Rattle.std.specs.Prelude.{◌==◌, ◌&&◌, ◌||◌, ℕ, pos, negsuc, Bool, true, false, not, List, [], ◌∷◌, length, find, codes, nat_eq, nat_le, Option, None, Some, is_some, is_none, option_and_then, unwrap_or, ℤ}
use Rattle.std.specs.Option.{option_map_or, option_to_list}
use Rattle.std.specs.List.{list_all, list_any, count_by, filter_map}
use Rattle.std.specs.Cmp.Lexicographic.{pointwise}
use Rattle.toml.specs.Data.{Data, Items, no_items, item, Members, no_members, member, get_member, as_str, as_integer, as_bool, as_array, as_table}
use Rattle.uuid.specs.Text.{parsed}
use Rattle.ua_settings.specs.declared.keys.Section.{Section}
use Rattle.ua_settings.specs.declared.keys.Section.TheVariants.{Document, Archive, Server, User, Folder, Variable, Peer, Door, Web, Log}
use Rattle.ua_settings.specs.declared.keys.Holds.{Holds}
use Rattle.ua_settings.specs.declared.keys.Holds.TheVariants.{Text, Id, Replica, UpTo, Truth, NodeName, UserName, FolderId, Access, AfterBreak, PasswordFile, Texts, Replicas, OneTable, Tables}
use Rattle.ua_settings.specs.declared.keys.Wrong.{Wrong}
use Rattle.ua_settings.specs.declared.password.PasswordLine.{PasswordLine}
use Rattle.ua_settings.specs.declared.keys.Wrong.TheVariants.{Unknown, Missing, Bad}

-- ---- the keys of each table

-- a key: its name, whether it must be there, the key that may be there instead, and what it holds
abbrev pub Rule : Type 0
Rule = record { name : List ℕ; required : Bool; instead : Option (List ℕ); holds : Holds }

-- a key that a table has to have
abbrev pub required : List ℕ → Holds → Rule
required name holds = record { name = name; required = true; instead = None; holds = holds }

-- of two keys a table has to have the one or the other, and not both
abbrev pub required_or : (name other : List ℕ) → Holds → Rule
required_or name other holds =
    record { name = name; required = true; instead = Some other; holds = holds }

-- a key that a table may have
abbrev pub optional : List ℕ → Holds → Rule
optional name holds = record { name = name; required = false; instead = None; holds = holds }

-- the keys of the document
abbrev pub document_keys : List Rule
document_keys =
    required (codes "archive") OneTable ∷ required (codes "server") OneTable
    ∷ optional (codes "user") Tables ∷ optional (codes "folder") Tables
    ∷ optional (codes "variable") Tables ∷ optional (codes "peer") Tables
    ∷ optional (codes "door") OneTable ∷ optional (codes "web") OneTable
    ∷ optional (codes "log") OneTable ∷ []

-- those of the table `archive`
abbrev pub archive_keys : List Rule
archive_keys =
    required (codes "id") Id ∷ required (codes "replica") Replica ∷ optional (codes "store") Text
    ∷ optional (codes "broken") AfterBreak ∷ optional (codes "index") Truth ∷ []

-- those of the table `server`
abbrev pub server_keys : List Rule
server_keys =
    required (codes "listen") Text ∷ required (codes "url") Text
    ∷ required (codes "application") Text ∷ required (codes "namespace") Text
    ∷ required (codes "anonymous") Truth ∷ optional (codes "connections") (UpTo 1000)
    ∷ optional (codes "waiting") (UpTo 65536) ∷ optional (codes "anonymous_access") Access
    ∷ optional (codes "strict") Truth ∷ optional (codes "slow") (UpTo 60000)
    ∷ optional (codes "logins") (UpTo 1000) ∷ []

-- those of a table of a user
abbrev pub user_keys : List Rule
user_keys =
    required (codes "name") UserName ∷ required_or (codes "password") (codes "password_file") Text
    ∷ optional (codes "password_file") PasswordFile ∷ optional (codes "access") Access ∷ []

-- those of a table of a variable
abbrev pub variable_keys : List Rule
variable_keys =
    required (codes "id") NodeName ∷ required (codes "name") Text ∷ required (codes "type") Text
    ∷ optional (codes "array") Truth ∷ optional (codes "folder") FolderId ∷ []

-- those of the table `door`
abbrev pub door_keys : List Rule
door_keys =
    required (codes "listen") Text ∷ optional (codes "from") Texts
    ∷ optional (codes "replicas") Replicas ∷ optional (codes "ahead") (UpTo 31536000) ∷ []

-- those of the table `web`
abbrev pub web_keys : List Rule
web_keys = required (codes "listen") Text ∷ optional (codes "connections") (UpTo 1000) ∷ []

-- those of the table `log`
abbrev pub log_keys : List Rule
log_keys = optional (codes "events") Truth ∷ []

-- those of a table of a peer
abbrev pub peer_keys : List Rule
peer_keys =
    required (codes "address") Text ∷ required (codes "every") (UpTo 86400)
    ∷ optional (codes "check") Truth ∷ []

-- the keys of each kind of table, and what each holds
abbrev pub rules : Section → List Rule
rules Document = document_keys
rules Archive = archive_keys
rules Server = server_keys
rules User = user_keys
rules Folder = required (codes "id") Text ∷ required (codes "name") Text ∷ []
rules Variable = variable_keys
rules Peer = peer_keys
rules Door = door_keys
rules Web = web_keys
rules Log = log_keys

-- the kinds of tables, in the order in which a document is judged
abbrev pub sections : List Section
sections =
    Document ∷ Archive ∷ Server ∷ User ∷ Folder ∷ Variable ∷ Peer ∷ Door ∷ Web ∷ Log ∷ []

-- ---- the tables of a document

-- the items of an array
abbrev pub items_in : Items → List Data
items_in no_items = []
items_in (item value items) = value ∷ items_in items

-- the keys of a table
abbrev pub keys_in : Members → List (List ℕ)
keys_in no_members = []
keys_in (member key value members) = key ∷ keys_in members

-- the tables among the values of an array
abbrev pub many_tables : Option Data → List Members
many_tables value =
    filter_map as_table
    (elim (option_and_then as_array value) [ None ↦ [] | Some items ↦ items_in items ])

-- the table that a value is, if it is one
abbrev pub one_table : Option Data → List Members
one_table value = option_to_list (option_and_then as_table value)

-- the tables of a section
abbrev pub tables : Members → Section → List Members
tables document Document = document ∷ []
tables document Archive = one_table (get_member (codes "archive") document)
tables document Server = one_table (get_member (codes "server") document)
tables document User = many_tables (get_member (codes "user") document)
tables document Folder = many_tables (get_member (codes "folder") document)
tables document Variable = many_tables (get_member (codes "variable") document)
tables document Peer = many_tables (get_member (codes "peer") document)
tables document Door = one_table (get_member (codes "door") document)
tables document Web = one_table (get_member (codes "web") document)
tables document Log = one_table (get_member (codes "log") document)

-- the text at a key, empty where there is none
abbrev pub text_at : List ℕ → Members → List ℕ
text_at key members = unwrap_or (option_and_then as_str (get_member key members)) []

-- ---- what a key must hold

-- the first line of the password file at this path, empty where there is none
abbrev pub password_line : List PasswordLine → (path : List ℕ) → List ℕ
password_line lines path =
    option_map_or (λ p. p.line) (find (λ p. pointwise nat_eq p.path path) lines) []

-- what a value may depend on: how many users have a name, whether a folder has an id, and what
-- password files say
abbrev pub Names : Type 0
Names =
    record { users : List ℕ → ℕ; folders : List ℕ → Bool; passwords : List PasswordLine }

-- those of a document, where password files say this
abbrev pub names_in : List PasswordLine → Members → Names
names_in lines document =
    record {
      users = λ name. count_by (λ user. pointwise nat_eq name (text_at (codes "name") user))
          (tables document User);
      folders = λ id. list_any (λ folder. pointwise nat_eq (text_at (codes "id") folder) id)
          (tables document Folder);
      passwords = lines;
    }

-- 1 to 256 bytes
abbrev pub is_name : List ℕ → Bool
is_name text = nat_le 1 (length text) && nat_le (length text) 256

-- a replica's number: 1 to 64
abbrev pub is_replica : ℤ → Bool
is_replica number = elim number [ pos n ↦ nat_le 1 n && nat_le n 64 | negsuc n ↦ false ]

-- a number from 1 on, up to another
abbrev pub is_up_to : ℕ → ℤ → Bool
is_up_to most number = elim number [ pos n ↦ nat_le 1 n && nat_le n most | negsuc n ↦ false ]

-- the name of a user: one that no other user has, and not that of a user without one
abbrev pub is_user_name : Names → List ℕ → Bool
is_user_name names name =
    is_name name
    && (not (pointwise nat_eq name (codes "anonymous"))
    && (names.users name == 1))

-- what a user may do, as it is spelled
abbrev pub is_access : List ℕ → Bool
is_access text = pointwise nat_eq text (codes "read") || pointwise nat_eq text (codes "write")

-- what `serve` does once its store is broken, as it is spelled
abbrev pub is_after_break : List ℕ → Bool
is_after_break text =
    pointwise nat_eq text (codes "stop") || pointwise nat_eq text (codes "reopen")

-- the path of a password file whose first line isn't empty
abbrev pub is_password_file : Names → List ℕ → Bool
is_password_file names path = nat_le 1 (length (password_line names.passwords path))

-- a text of at most 65,536 bytes
abbrev pub is_text : Data → Bool
is_text value = option_map_or (λ text. nat_le (length text) 65536) (as_str value) false

-- what an array may hold: texts of at most 65,536 bytes, numbers of replicas, or tables
abbrev pub is_held : Holds → Data → Bool
is_held Texts value = is_text value
is_held Replicas value = option_map_or is_replica (as_integer value) false
is_held holds value = is_some (as_table value)

-- an array of these alone
abbrev pub are_held : Holds → Items → Bool
are_held holds items = list_all (is_held holds) (items_in items)

-- whether a value is one that a key may hold; a text has at most 65,536 bytes
abbrev pub fits : Names → Holds → Data → Bool
fits names Text value = is_text value
fits names Id value = option_map_or (λ text. is_some (parsed text)) (as_str value) false
fits names Replica value = option_map_or is_replica (as_integer value) false
fits names (UpTo most) value = option_map_or (is_up_to most) (as_integer value) false
fits names Truth value = is_some (as_bool value)
fits names NodeName value = option_map_or is_name (as_str value) false
fits names UserName value = option_map_or (is_user_name names) (as_str value) false
fits names FolderId value = option_map_or names.folders (as_str value) false
fits names Access value = option_map_or is_access (as_str value) false
fits names AfterBreak value = option_map_or is_after_break (as_str value) false
fits names PasswordFile value = option_map_or (is_password_file names) (as_str value) false
fits names Texts value = option_map_or (are_held Texts) (as_array value) false
fits names Replicas value = option_map_or (are_held Replicas) (as_array value) false
fits names OneTable value = is_some (as_table value)
fits names Tables value = option_map_or (are_held Tables) (as_array value) false

-- ---- how a document is wrong

-- the key is none that the table may have
abbrev pub is_unknown : Section → List ℕ → Bool
is_unknown section key = not (list_any (λ rule. pointwise nat_eq key rule.name) (rules section))

-- the table has the key that may be there in place of another
abbrev pub has_instead : Members → Rule → Bool
has_instead members rule =
    option_map_or (λ other. is_some (get_member other members)) rule.instead false

-- the table has to have the key, or the one instead, and hasn't
abbrev pub lacks : Members → Rule → Bool
lacks members rule =
    rule.required && (not (has_instead members rule) && is_none (get_member rule.name members))

-- the key is there and doesn't hold what it must, or the one instead is there too
abbrev pub misfits : Names → Members → Rule → Bool
misfits names members rule =
    option_map_or (λ value. has_instead members rule || not (fits names rule.holds value))
    (get_member rule.name members) false

-- whether a key of a table is wrong in this way
abbrev pub is_wrong : Names → Wrong → Section → Members → Bool
is_wrong names Unknown section members = list_any (is_unknown section) (keys_in members)
is_wrong names Missing section members = list_any (lacks members) (rules section)
is_wrong names Bad section members = list_any (misfits names members) (rules section)

-- the first way in which a document is wrong: unknown keys before missing ones and these before bad
-- ones
abbrev pub first_refusal : List PasswordLine → Members → Option Wrong
first_refusal lines document = find (λ wrong. list_any
    (λ section.
    list_any (is_wrong (names_in lines document) wrong section) (tables document section))
    sections) (Unknown ∷ Missing ∷ Bad ∷ [])
