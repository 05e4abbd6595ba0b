-- A document in which nothing is wrong is sound.
use Rattle.std.proofs.Common.{◌≡◌, ◌&&◌, ◌+◌, ℕ, Bool, true, false, not, cond, List, [], ◌∷◌, find, codes, refl, Option, None, Some, IfSome, option_map, option_and_then, unwrap_or, is_some, is_none}
use Rattle.std.specs.Option.{option_to_list}
use Rattle.std.proofs.lemmas.Bool.{false≢true, and_parts}
use Rattle.std.specs.List.{AllByRecursion}
use Rattle.toml.specs.Data.{Data, Members, no_members, get_member, as_str, as_integer, as_table}
use Rattle.ua_settings.specs.declared.keys.Section.{Section}
use Rattle.ua_settings.specs.declared.keys.Section.TheVariants.{Document, Archive, Server, User, Folder, Variable, Peer, Door, Web, Log}
use Rattle.ua_settings.specs.declared.keys.Wrong.{Wrong}
use Rattle.ua_settings.specs.declared.keys.Wrong.TheVariants.{Unknown, Missing, Bad}
use Rattle.ua_settings.specs.declared.password.PasswordLine.{PasswordLine}
use Rattle.ua_settings.specs.File.{Names, rules, is_name, is_up_to, text_at, tables, names_in}
use Rattle.ua_settings.specs.Judging.{Spot, test, is_id, is_short, is_replica, is_missing, is_bad, wrong_key, wrong_from, wrong_at, first_wrong}
use Rattle.ua_settings.proofs.FileParts.{wrong_in, name_of, or_later, or_else}
use Rattle.ua_settings.specs.Sound.{IsSound, IsSoundArchive, IsSoundServer, IsSoundUser, IsSoundFolder, IsSoundPeer, IsSoundDoor, IsSoundWeb, IsSoundVariable}

-- ---- nothing is found

none_both : {A : Type 0} (x y : Option A) → or_else x y ≡ None → (x ≡ None) × (y ≡ None)
none_both None y none = (refl, none)
none_both (Some a) y none = cc

none_mapped : {A B : Type 0} (f : A → B) (x : Option A) → option_map f x ≡ None → x ≡ None
none_mapped f None none = refl
none_mapped f (Some a) none = cc

unfound_next : {A : Type 0} (b : Bool) (x : A) (more : Option A) → cond b (Some x) more ≡ None
    → (b ≡ false) × (more ≡ None)
unfound_next false x more none = (refl, none)
unfound_next true x more none = cc

all_unfound : {A : Type 0} (test : A → Bool) (xs : List A) → find test xs ≡ None
    → AllByRecursion (λ x. test x ≡ false) xs
all_unfound test [] none = tt
all_unfound test (x ∷ xs) none =
    let parts = unfound_next (test x) x (find test xs) none in
    (parts.0, all_unfound test xs parts.1)

later_none : (section : Section) (n : ℕ) (key : Option (List ℕ)) (later : Option Spot)
    → or_later section n key later ≡ None → (key ≡ None) × (later ≡ None)
later_none section n None later none = (refl, none)
later_none section n (Some key) later none = cc

all_right : (names : Names) (wrong : Wrong) (section : Section) (n : ℕ) (list : List Members)
    → wrong_from names wrong section n list ≡ None
    → AllByRecursion (λ members. wrong_key names wrong section members ≡ None) list
all_right names wrong section n [] none = tt
all_right names wrong section n (members ∷ more) none =
    let parts = later_none section n (wrong_key names wrong section members)
    (wrong_from names wrong section (n + 1) more) none in
    (parts.0, all_right names wrong section (n + 1) more parts.1)

each_section : (lines : List PasswordLine) (document : Members) (wrong : Wrong)
    → wrong_at lines document wrong ≡ None
    → (section : Section) → wrong_in lines document wrong section ≡ None
unfolding wrong_at
each_section lines document wrong none section =
    let one = none_both (wrong_in lines document wrong Document) _ none in
    let two = none_both (wrong_in lines document wrong Archive) _ one.1 in
    let three = none_both (wrong_in lines document wrong Server) _ two.1 in
    let four = none_both (wrong_in lines document wrong User) _ three.1 in
    let five = none_both (wrong_in lines document wrong Folder) _ four.1 in
    let six = none_both (wrong_in lines document wrong Variable) _ five.1 in
    let seven = none_both (wrong_in lines document wrong Peer) _ six.1 in
    let eight = none_both (wrong_in lines document wrong Door) _ seven.1 in
    let nine = none_both (wrong_in lines document wrong Web) _ eight.1 in
    let ten = none_both (wrong_in lines document wrong Log) _ nine.1 in
    elim section as (λ s. wrong_in lines document wrong s ≡ None) [
      | Document ↦ one.0
      | Archive ↦ two.0
      | Server ↦ three.0
      | User ↦ four.0
      | Folder ↦
          five.0
      | Variable ↦ six.0
      | Peer ↦ seven.0
      | Door ↦ eight.0
      | Web ↦ nine.0
      | Log ↦ ten.0
    ]

-- ---- a table in which nothing is wrong

record IsRight (names : Names) (section : Section) (members : Members) : Type 0 where
  missing : wrong_key names Missing section members ≡ None
  bad : wrong_key names Bad section members ≡ None

all_joined : {A : Type 0} (P Q R : A → Type 0) → ((x : A) → P x → Q x → R x) → (xs : List A)
    → AllByRecursion P xs → AllByRecursion Q xs → AllByRecursion R xs
all_joined P Q R join [] p q = tt
all_joined P Q R join (x ∷ xs) p q = (join x p.0 q.0, all_joined P Q R join xs p.1 q.1)

all_weaker : {A : Type 0} (P Q : A → Type 0) → ((x : A) → P x → Q x) → (xs : List A)
    → AllByRecursion P xs → AllByRecursion Q xs
all_weaker P Q weaker [] p = tt
all_weaker P Q weaker (x ∷ xs) p = (weaker x p.0, all_weaker P Q weaker xs p.1)

all_tables : (lines : List PasswordLine) (document : Members)
    → wrong_at lines document Missing ≡ None → wrong_at lines document Bad ≡ None
    → (section : Section)
    → AllByRecursion (IsRight (names_in lines document) section) (tables document section)
all_tables lines document missing bad section =
    all_joined _ _ (IsRight (names_in lines document) section)
    (λ members p q. record { missing = p; bad = q }) (tables document section)
    (all_right (names_in lines document) Missing section 1 (tables document section)
    (each_section lines document Missing missing section))
    (all_right (names_in lines document) Bad section 1 (tables document section)
    (each_section lines document Bad bad section))

lacks_none : (names : Names) (section : Section) (members : Members) → IsRight names section members
    → AllByRecursion (λ rule. is_missing members rule ≡ false) (rules section)
lacks_none names section members right =
    all_unfound (is_missing members) (rules section) (none_mapped name_of _ right.missing)

spoils_none : (names : Names) (section : Section) (members : Members)
    → IsRight names section members
    → AllByRecursion (λ rule. is_bad names members rule ≡ false) (rules section)
spoils_none names section members right =
    all_unfound (is_bad names members) (rules section) (none_mapped name_of _ right.bad)

was_true : (b : Bool) → not b ≡ false → b ≡ true
was_true true e = refl
was_true false e = cc

-- a key that is there and isn't bad holds what it must
held : (p : Data → Bool) (value : Option Data) → is_none value ≡ false
    → test (λ v. not (p v)) value ≡ false → test p value ≡ true
held p None there good = cc
held p (Some v) there good = was_true (p v) good

tested : {A B : Type 0} (p : B → Bool) (f : A → Option B) (value : Option A)
    → test (λ v. test p (f v)) value ≡ true → test p (option_and_then f value) ≡ true
tested p f None good = good
tested p f (Some v) good = good

passed : {A : Type 0} (p : A → Bool) (value : Option A) (d : A) → test p value ≡ true
    → p (unwrap_or value d) ≡ true
passed p None d good = absurd (false≢true good)
passed p (Some v) d good = good

some_tested : {A B : Type 0} (f : A → Option B) (value : Option A)
    → test (λ v. is_some (f v)) value ≡ true → is_some (option_and_then f value) ≡ true
some_tested f None good = good
some_tested f (Some v) good = good

text_held : (p : List ℕ → Bool) (key : List ℕ) (members : Members)
    → is_none (get_member key members) ≡ false
    → test (λ v. not (test p (as_str v))) (get_member key members) ≡ false
    → p (text_at key members) ≡ true
text_held p key members there good =
    passed p _ [] (tested p as_str _ (held (λ v. test p (as_str v)) _ there good))

some_held : {A : Type 0} (p : A → Bool) (found : Option A) → test p found ≡ true
    → IfSome found (λ a. p a ≡ true)
some_held p None good = tt
some_held p (Some a) good = good

optional_held : {A : Type 0} (p : A → Bool) (f : Data → Option A) (value : Option Data)
    → test (λ v. not (test p (f v))) value ≡ false
    → IfSome (option_and_then f value) (λ a. p a ≡ true)
optional_held p f None good = tt
optional_held p f (Some v) good = some_held p (f v) (was_true (test p (f v)) good)

only_one : {A : Type 0} (P : A → Type 0) (value : Option A) (d : A) → is_some value ≡ true
    → AllByRecursion P (option_to_list value) → P (unwrap_or value d)
only_one P None d there all = absurd (false≢true there)
only_one P (Some v) d there all = all.0

-- ---- each section

archive_sound : (names : Names) (members : Members) → IsRight names Archive members
    → IsSoundArchive members
archive_sound names members right =
    let lacks = lacks_none names Archive members right in
    let spoils = spoils_none names Archive members right in
    record {
      id = text_held is_id (codes "id") members lacks.0 spoils.0;
      replica = tested is_replica as_integer (get_member (codes "replica") members)
          (held (λ v. test is_replica (as_integer v)) _ lacks.1.0 spoils.1.0);
    }

server_sound : (names : Names) (members : Members) → IsRight names Server members
    → IsSoundServer members
server_sound names members right =
    let lacks = lacks_none names Server members right in
    let spoils = spoils_none names Server members right in
    record {
      url = text_held is_short (codes "url") members lacks.1.0 spoils.1.0;
      application = text_held is_short (codes "application") members lacks.1.1.0 spoils.1.1.0;
      namespace = text_held is_short (codes "namespace") members lacks.1.1.1.0 spoils.1.1.1.0;
      connections = optional_held (is_up_to 1000) as_integer
          (get_member (codes "connections") members) spoils.1.1.1.1.1.0;
      waiting = optional_held (is_up_to 65536) as_integer (get_member (codes "waiting") members)
          spoils.1.1.1.1.1.1.0;
      slow = optional_held (is_up_to 60000) as_integer (get_member (codes "slow") members)
          spoils.1.1.1.1.1.1.1.1.1.0;
      logins = optional_held (is_up_to 1000) as_integer (get_member (codes "logins") members)
          spoils.1.1.1.1.1.1.1.1.1.1.0;
    }

name_of_user : (users : List ℕ → ℕ) (name : List ℕ) (b : Bool) → (is_name name && b) ≡ true
    → is_name name ≡ true
name_of_user users name b good = (and_parts (is_name name) b good).0

user_sound : (names : Names) (members : Members) → IsRight names User members → IsSoundUser members
user_sound names members right =
    let lacks = lacks_none names User members right in
    let spoils = spoils_none names User members right in
    record {
      name = name_of_user names.users (text_at (codes "name") members) _
          (text_held _ (codes "name") members lacks.0 spoils.0);
    }

folder_sound : (names : Names) (members : Members) → IsRight names Folder members
    → IsSoundFolder members
folder_sound names members right =
    let lacks = lacks_none names Folder members right in
    let spoils = spoils_none names Folder members right in
    record {
      id = text_held is_short (codes "id") members lacks.0 spoils.0;
      name =
          text_held is_short (codes "name") members lacks.1.0 spoils.1.0;
    }

peer_sound : (names : Names) (members : Members) → IsRight names Peer members
    → IsSoundPeer members
peer_sound names members right =
    let spoils = spoils_none names Peer members right in
    record {
      every = optional_held (is_up_to 86400) as_integer (get_member (codes "every") members)
          spoils.1.0;
    }

door_sound : (names : Names) (members : Members) → IsRight names Door members
    → IsSoundDoor members
door_sound names members right =
    let spoils = spoils_none names Door members right in
    record {
      ahead = optional_held (is_up_to 31536000) as_integer (get_member (codes "ahead") members)
          spoils.1.1.1.0;
    }

web_sound : (names : Names) (members : Members) → IsRight names Web members
    → IsSoundWeb members
web_sound names members right =
    let spoils = spoils_none names Web members right in
    record {
      connections = optional_held (is_up_to 1000) as_integer
          (get_member (codes "connections") members) spoils.1.0;
    }

variable_sound : (names : Names) (members : Members) → IsRight names Variable members
    → IsSoundVariable names.folders members
variable_sound names members right =
    let lacks = lacks_none names Variable members right in
    let spoils = spoils_none names Variable members right in
    record {
      id = text_held is_name (codes "id") members lacks.0 spoils.0;
      name = text_held is_short (codes "name") members lacks.1.0 spoils.1.0;
      folder = optional_held names.folders
          as_str (get_member (codes "folder") members) spoils.1.1.1.1.0;
    }

pub sound : (lines : List PasswordLine) (document : Members) → first_wrong lines document ≡ None
    → IsSound lines document
sound lines document none =
    let first = none_both (option_map (λ spot. (Unknown, spot)) (wrong_at lines document Unknown)) _
    none
    in
    let second = none_both (option_map (λ spot. (Missing, spot)) (wrong_at lines document Missing))
    _
    first.1 in
    let third = none_both (option_map (λ spot. (Bad, spot)) (wrong_at lines document Bad)) _
    second.1 in
    let missing : wrong_at lines document Missing ≡ None = none_mapped _ _ second.0 in
    let bad : wrong_at lines document Bad ≡ None = none_mapped _ _ third.0 in
    let all = all_tables lines document missing bad in
    let lacks = lacks_none (names_in lines document) Document document (all Document).0 in
    let spoils = spoils_none (names_in lines document) Document document (all Document).0 in
    let has_archive = some_tested as_table (get_member (codes "archive") document)
    (held (λ v. is_some (as_table v)) _ lacks.0 spoils.0) in
    let has_server = some_tested as_table (get_member (codes "server") document)
    (held (λ v. is_some (as_table v)) _ lacks.1.0 spoils.1.0) in
    record {
      has_archive = has_archive;
      has_server = has_server;
      archive = archive_sound (names_in lines document) _
          (only_one (IsRight (names_in lines document) Archive) _ no_members has_archive
          (all Archive));
      server = server_sound (names_in lines document) _ (only_one
          (IsRight (names_in lines document) Server) _ no_members has_server (all Server));
      users = all_weaker _ _ (user_sound (names_in lines document)) _ (all User);
      folders = all_weaker _ _ (folder_sound (names_in lines document)) _ (all Folder);
      variables = all_weaker _ _ (variable_sound (names_in lines document)) _ (all Variable);
      peers = all_weaker _ _ (peer_sound (names_in lines document)) _ (all Peer);
      door = all_weaker _ _ (door_sound (names_in lines document)) _ (all Door);
      web = all_weaker _ _ (web_sound (names_in lines document)) _ (all Web);
    }
