-- What settings a file gives.
use Rattle.std.specs.Prelude.{◌≡◌, ◌⊎◌, ℕ, pos, Bool, false, List, [], map, codes, nat_eq, Option, None, Some, option_map, option_and_then, is_some, unwrap_or, Result, Err, if◌then◌else◌}
use Rattle.std.specs.List.{filter_map, list_any}
use Rattle.std.specs.Cmp.Lexicographic.{pointwise}
use Rattle.std.specs.Result.{result_map_both}
use Rattle.toml.specs.Data.{Data, Items, Members, no_members, get_member, as_str, as_integer, as_bool, as_array, as_table}
use Rattle.uuid.specs.Text.{parsed}
use Rattle.ua_space.specs.declared.fault.BuildFault.{BuildFault}
use Rattle.ua_space.specs.declared.fault.BuildFault.TheVariants as build
use Rattle.ua_space.specs.declared.layout.Layout.{Layout}
use Rattle.ua_space.specs.declared.node.Folder.{Folder as SpaceFolder}
use Rattle.ua_space.specs.Plan.{Entry, planned}
use Rattle.ua_settings.specs.declared.fault.SettingsFault.{SettingsFault}
use Rattle.ua_settings.specs.declared.fault.SettingsFault.TheVariants.{NotToml, MissingKey, BadValue, UnknownKey, Space, OutOfMemory}
use Rattle.ua_settings.specs.declared.keys.Section.TheVariants.{User, Folder, Variable, Peer}
use Rattle.ua_settings.specs.declared.keys.Wrong.TheVariants.{Unknown, Missing, Bad}
use Rattle.ua_settings.specs.declared.password.PasswordLine.{PasswordLine}
use Rattle.ua_settings.specs.declared.door.DoorSettings.{DoorSettings}
use Rattle.ua_settings.specs.declared.web.WebSettings.{WebSettings}
use Rattle.ua_settings.specs.declared.reading.Listed.{Listed}
use Rattle.ua_settings.specs.File.{is_replica, items_in, password_line, tables, text_at, first_refusal}
use Rattle.ua_settings.specs.Settings.{SettingsValues}
use Rattle.ua_session.specs.Users.{Allowed}
use Rattle.ua_session.specs.declared.identity.Access.{Access}
use Rattle.ua_session.specs.declared.identity.Access.TheVariants.{Read, Write}
use Rattle.ua_settings.specs.declared.after_break.AfterBreak.{AfterBreak}
use Rattle.ua_settings.specs.declared.after_break.AfterBreak.TheVariants.{GoOn, Stop, Reopen}
use Rattle.ua_settings.specs.declared.peers.PeerCall.{PeerCall}
use Rattle.ua_session.specs.declared.identity.User.{User as NamedUser}

-- ---- what stands in a document in which nothing is wrong

-- the table at a key, an empty one where there is none
abbrev pub table_at : List ℕ → Members → Members
table_at key members = unwrap_or (option_and_then as_table (get_member key members)) no_members

-- the truth at a key, false where there is none
abbrev pub truth_at : List ℕ → Members → Bool
truth_at key members = unwrap_or (option_and_then as_bool (get_member key members)) false

-- a number that isn't below 0
abbrev pub number_in : Data → Option ℕ
number_in value = elim (as_integer value) [ Some (pos n) ↦ Some n | _ ↦ None ]

-- the number at a key, if there is one
abbrev pub number_there : List ℕ → Members → Option ℕ
number_there key members = option_and_then number_in (get_member key members)

-- the number at a key, another one where there is none
abbrev pub number_or : ℕ → List ℕ → Members → ℕ
number_or otherwise key members = unwrap_or (number_there key members) otherwise

-- the number at a key, 0 where there is none
abbrev pub number_at : List ℕ → Members → ℕ
number_at key members = number_or 0 key members

-- the folder that a table gives
abbrev pub folder_in : Members → SpaceFolder
folder_in folder = record { id = text_at (codes "id") folder; name = text_at (codes "name") folder }

-- the variable that a table gives
abbrev pub variable_in : Members → Entry
variable_in variable =
    record {
      id = text_at (codes "id") variable;
      name = text_at (codes "name") variable;
      type_name = text_at (codes "type") variable;
      array = truth_at (codes "array") variable;
      folder = option_and_then as_str (get_member (codes "folder") variable);
    }

-- what a user may do, by the text at a key: read and update histories where none is there
abbrev pub access_at : List ℕ → Members → Access
access_at key members =
    if pointwise nat_eq (text_at key members) (codes "read") then Read else Write

-- what is done once the store is broken, by the text at a key: it goes on where none is there
abbrev pub after_break_at : List ℕ → Members → AfterBreak
after_break_at key members = let text = text_at key members in
    if pointwise nat_eq text (codes "stop") then Stop
    else if pointwise nat_eq text (codes "reopen") then Reopen
    else GoOn

-- the password that a table gives: its own, or the first line of its file
abbrev pub password_in : List PasswordLine → Members → List ℕ
password_in lines user =
    unwrap_or (option_and_then as_str (get_member (codes "password") user))
    (password_line lines (text_at (codes "password_file") user))

-- a user that a table gives
abbrev pub user_in : List PasswordLine → Members → NamedUser
user_in lines user =
    record {
      name = text_at (codes "name") user;
      password = password_in lines user;
      access = access_at (codes "access") user;
    }

-- the users that the tables give
abbrev pub users_in : List PasswordLine → Members → List Members → Allowed
users_in lines server users =
    record {
      anonymous = truth_at (codes "anonymous") server;
      anonymous_access = access_at (codes "anonymous_access") server;
      named = map (user_in lines) users;
    }

-- a peer that a table gives; numbers that were given twice are looked for only where it says so
abbrev pub peer_in : Members → PeerCall
peer_in peer =
    record {
      address = text_at (codes "address") peer;
      every = number_at (codes "every") peer;
      checks = truth_at (codes "check") peer;
    }

-- the texts of an array
abbrev pub texts_in : Items → List (List ℕ)
texts_in items = filter_map as_str (items_in items)

-- the number of a replica that a value is
abbrev pub replica_in : Data → Option ℕ
replica_in value =
    elim (as_integer value) [
      | Some (pos n) ↦ if is_replica (pos n) then Some n else None
      | _ ↦ None
    ]

-- the numbers of replicas in an array
abbrev pub replicas_in : Items → List ℕ
replicas_in items = filter_map replica_in (items_in items)

-- where peers come to, and who is taken there, by a table
abbrev pub door_in : Members → DoorSettings
door_in door =
    record {
      listen = text_at (codes "listen") door;
      from = option_map texts_in (option_and_then as_array (get_member (codes "from") door));
      replicas =
          option_map replicas_in (option_and_then as_array (get_member (codes "replicas") door));
      ahead = number_there (codes "ahead") door;
    }

-- where browsers come to, by a table; 8 of their connections at a time, where it doesn't say
abbrev pub web_in : Members → WebSettings
web_in web =
    record {
      listen = text_at (codes "listen") web;
      connections = number_or 8 (codes "connections") web;
    }

-- the table at a key, if there is one
abbrev pub table_there : List ℕ → Members → Option Members
table_there key members = option_and_then as_table (get_member key members)

-- what the tables of a document list beside those of the archive and the server, with these nodes
abbrev pub listed_in : List PasswordLine → Members → Layout → Listed
listed_in lines document space = record {
  users = users_in lines (table_at (codes "server") document) (tables document User);
  peers = map peer_in (tables document Peer);
  door = option_map door_in (table_there (codes "door") document);
  web = option_map web_in (table_there (codes "web") document);
  events = truth_at (codes "events") (table_at (codes "log") document);
  space = space;
}

-- what the tables `archive` and `server` give, with what others list; 64 connections at a time, and
-- 256 MiB, where the tables don't say, faults once the store is broken, no index of live values,
-- files of any rights, no turn that is told, and no limit of refused logins
abbrev pub values_of : (archive server : Members) → Listed → SettingsValues
values_of archive server listed = record {
  archive = unwrap_or (parsed (text_at (codes "id") archive)) [];
  replica = number_at (codes "replica") archive;
  store = option_and_then as_str (get_member (codes "store") archive);
  listen = text_at (codes "listen") server;
  url = text_at (codes "url") server;
  application = text_at (codes "application") server;
  users = listed.users;
  space = listed.space;
  connections = number_or 64 (codes "connections") server;
  waiting = number_or 256 (codes "waiting") server;
  peers = listed.peers;
  door = listed.door;
  web = listed.web;
  after_break = after_break_at (codes "broken") archive;
  is_indexed = truth_at (codes "index") archive;
  is_strict = truth_at (codes "strict") server;
  slow = number_there (codes "slow") server;
  logins = number_there (codes "logins") server;
  events = listed.events;
}

-- the settings of a document with these nodes
abbrev pub set_values : List PasswordLine → Members → Layout → SettingsValues
set_values lines document space =
    values_of (table_at (codes "archive") document) (table_at (codes "server") document)
    (listed_in lines document space)

-- the path of a user's password file, if it has one
abbrev pub path_in : Members → Option (List ℕ)
path_in user = option_and_then as_str (get_member (codes "password_file") user)

-- the paths of the password files that a text names, by the document that it is
abbrev pub password_paths : Option Members → List (List ℕ)
password_paths None = []
password_paths (Some document) = filter_map path_in (tables document User)

-- a user's password stands beside his name
abbrev pub has_password : Members → Bool
has_password user = is_some (get_member (codes "password") user)

-- a password stands in a text itself, by the document that it is
abbrev pub holds_password : Option Members → Bool
holds_password None = false
holds_password (Some document) = list_any has_password (tables document User)

-- ---- what a file gives

-- the nodes of a document, or why they make no space
abbrev pub space_in : Members → Result Layout BuildFault
space_in document =
    planned (text_at (codes "namespace") (table_at (codes "server") document))
    (map folder_in (tables document Folder)) (map variable_in (tables document Variable))

-- the settings of a document in which nothing is wrong
abbrev pub settings_in : List PasswordLine → Members → Result SettingsValues SettingsFault
settings_in lines document =
    result_map_both (set_values lines document) Space (space_in document)

-- the settings that a text gives, by the document that it is, where password files say this, or
-- the first fault
abbrev pub read_in : List PasswordLine → Option Members → Result SettingsValues SettingsFault
read_in lines None = Err NotToml
read_in lines (Some document) =
    elim (first_refusal lines document) [
      | None ↦ settings_in lines document
      | Some Unknown ↦ Err UnknownKey
      | Some Missing ↦ Err MissingKey
      | Some Bad ↦ Err BadValue
    ]

-- that, or memory ran out
abbrev pub IsReadOrStarved : List PasswordLine → Option Members
    → Result SettingsValues SettingsFault → Type 0
IsReadOrStarved lines document result =
    (result ≡ Err OutOfMemory) ⊎ (result ≡ read_in lines document)

-- ---- the steps

-- what a fault of the nodes is called here
abbrev pub space_fault : BuildFault → SettingsFault
space_fault build.OutOfMemory = OutOfMemory
space_fault fault = Space fault

-- the nodes of a document, or why they make no space, or memory ran out
abbrev pub IsSpaceOrStarved : Members → Result Layout SettingsFault → Type 0
IsSpaceOrStarved document result =
    (result ≡ Err OutOfMemory)
    ⊎ (result ≡ result_map_both (λ space. space) Space (space_in document))

-- the settings of a document in which nothing is wrong, or memory ran out
abbrev pub IsAcceptedOrStarved : List PasswordLine → Members
    → Result SettingsValues SettingsFault → Type 0
IsAcceptedOrStarved lines document result =
    (result ≡ Err OutOfMemory) ⊎ (result ≡ settings_in lines document)
