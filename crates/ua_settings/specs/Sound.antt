-- What holds of a document in which nothing is wrong.
use Rattle.std.specs.Prelude.{◌≡◌, true, codes, Bool, List, ℕ, IfSome, is_some, option_and_then}
use Rattle.std.specs.List.{AllByRecursion}
use Rattle.toml.specs.Data.{Members, get_member, as_str, as_integer, as_table}
use Rattle.ua_settings.specs.declared.keys.Section.TheVariants.{User, Folder, Variable, Peer, Door, Web}
use Rattle.ua_settings.specs.declared.password.PasswordLine.{PasswordLine}
use Rattle.ua_settings.specs.File.{tables, text_at, is_name, is_up_to, names_in}
use Rattle.ua_settings.specs.Judging.{is_id, is_replica, is_short, test}
use Rattle.ua_settings.specs.Reading.{table_at}

-- a number at a key, if one is there, is from 1 up to this one
abbrev pub IsUpTo : ℕ → List ℕ → Members → Type 0
IsUpTo most key members =
    IfSome (option_and_then as_integer (get_member key members))
    (λ number. is_up_to most number ≡ true)

pub record IsSoundArchive (archive : Members) : Type 0 where
  pub id : is_id (text_at (codes "id") archive) ≡ true
  pub replica : test is_replica (option_and_then as_integer (get_member (codes "replica") archive))
      ≡ true

pub record IsSoundServer (server : Members) : Type 0 where
  pub url : is_short (text_at (codes "url") server) ≡ true
  pub application : is_short (text_at (codes "application") server) ≡ true
  pub namespace : is_short (text_at (codes "namespace") server) ≡ true
  pub connections : IsUpTo 1000 (codes "connections") server
  pub waiting : IsUpTo 65536 (codes "waiting") server
  pub slow : IsUpTo 60000 (codes "slow") server
  pub logins : IsUpTo 1000 (codes "logins") server

pub record IsSoundUser (user : Members) : Type 0 where
  pub name : is_name (text_at (codes "name") user) ≡ true

pub record IsSoundFolder (folder : Members) : Type 0 where
  pub id : is_short (text_at (codes "id") folder) ≡ true
  pub name : is_short (text_at (codes "name") folder) ≡ true

pub record IsSoundPeer (peer : Members) : Type 0 where
  pub every : IsUpTo 86400 (codes "every") peer

pub record IsSoundDoor (door : Members) : Type 0 where
  pub ahead : IsUpTo 31536000 (codes "ahead") door

pub record IsSoundWeb (web : Members) : Type 0 where
  pub connections : IsUpTo 1000 (codes "connections") web

pub record IsSoundVariable (is_folder : List ℕ → Bool) (variable : Members) : Type 0 where
  pub id : is_name (text_at (codes "id") variable) ≡ true
  pub name : is_short (text_at (codes "name") variable) ≡ true
  pub folder : IfSome (option_and_then as_str (get_member (codes "folder") variable))
      (λ id. is_folder id ≡ true)

pub record IsSound (lines : List PasswordLine) (document : Members) : Type 0 where
  pub has_archive : is_some (option_and_then as_table (get_member (codes "archive") document))
      ≡ true
  pub has_server : is_some (option_and_then as_table (get_member (codes "server") document)) ≡ true
  pub archive : IsSoundArchive (table_at (codes "archive") document)
  pub server : IsSoundServer (table_at (codes "server") document)
  pub users : AllByRecursion IsSoundUser (tables document User)
  pub folders : AllByRecursion IsSoundFolder (tables document Folder)
  pub variables : AllByRecursion (IsSoundVariable (names_in lines document).folders)
      (tables document Variable)
  pub peers : AllByRecursion IsSoundPeer (tables document Peer)
  pub door : AllByRecursion IsSoundDoor (tables document Door)
  pub web : AllByRecursion IsSoundWeb (tables document Web)
