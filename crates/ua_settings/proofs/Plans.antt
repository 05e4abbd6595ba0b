-- A sound document's plan is one that makes a space.
use Rattle.std.specs.Prelude.{if◌then◌else◌}
use Rattle.std.proofs.Common.{◌≡◌, ◌≢◌, ◌⊎◌, ◌+◌, ◌≤◌, ◌<◌, ◌^◌, ℕ, Bool, true, false, nat_lt, List, [], ◌∷◌, map, length, codes, refl, ap, sym, subst, ◌∙◌, arith, inl, inr, Option, None, Some, IfSome, IfOk, IfErr, Result, Ok, Err, nat_eq, option_copied, Bor, is_ok}
use Rattle.std.specs.Result.{result_map_both}
use Rattle.std.proofs.lemmas.Bool.{and_parts, leb-true, false≢true}
use Rattle.std.specs.List.{list_any, AllByRecursion}
use Rattle.std.specs.Cmp.Lexicographic.{pointwise}
use Rattle.toml.specs.Data.{Members}
use Rattle.ua_session.specs.declared.identity.Access.{Access}
use Rattle.ua_session.specs.declared.identity.User.{User as SessionUser}
use Rattle.ua_binary.specs.Format.{IsOrStarved}
use Rattle.ua_space.specs.declared.fault.BuildFault.{BuildFault}
use Rattle.ua_space.specs.declared.fault.BuildFault.TheVariants as build
use Rattle.ua_space.specs.declared.layout.Layout.{Layout}
use Rattle.ua_space.specs.declared.plan.Plan.{Plan}
use Rattle.ua_space.specs.declared.plan.FolderPlan.{FolderPlan}
use Rattle.ua_space.specs.declared.plan.VariablePlan.{VariablePlan}
use Rattle.ua_space.specs.Plan.{Entry, planned}
use Rattle.ua_space.specs.Lent.{planned_by, HasPlannedId, HasFolder, HasShortPlan, folder_of, entry_of, variable_of}
use Rattle.ua_space.specs.declared.node.Folder.{Folder as SpaceFolder}
use Rattle.ua_space.specs.Space.{IsCountable, HasShortTexts, HasCountableName}
use Rattle.ua_settings.specs.declared.fault.SettingsFault.{SettingsFault}
use Rattle.ua_settings.specs.declared.fault.SettingsFault.TheVariants.{OutOfMemory, Space}
use Rattle.ua_settings.specs.declared.keys.Section.TheVariants.{User, Folder, Variable}
use Rattle.ua_settings.specs.File.{tables, text_at, is_name, names_in}
use Rattle.ua_settings.specs.Judging.{is_short}
use Rattle.ua_settings.specs.Reading.{folder_in, variable_in, user_in, users_in, table_at, truth_at, access_at, listed_in, values_of, set_values, space_fault, space_in, IsSpaceOrStarved, IsAcceptedOrStarved}
use Rattle.ua_session.specs.Users.{Allowed}
use Rattle.ua_settings.specs.declared.door.DoorSettings.{DoorSettings}
use Rattle.ua_settings.specs.declared.web.WebSettings.{WebSettings}
use Rattle.ua_settings.specs.declared.peers.PeerCall.{PeerCall}
use Rattle.ua_settings.specs.declared.reading.Listed.{Listed}
use Rattle.ua_settings.specs.declared.password.PasswordLine.{PasswordLine}
use Rattle.ua_settings.specs.Settings.{SettingsValues}
use Rattle.ua_settings.specs.Sound.{IsSound, IsSoundFolder, IsSoundVariable}
use Rattle.ua_settings.proofs.Mapped.{any_of_mapped}

pub map_twice : {A B C : Type 0} (g : B → C) (f : A → B) (xs : List A)
    → map g (map f xs) ≡ map (λ x. g (f x)) xs
map_twice g f [] = refl
map_twice g f (x ∷ xs) = ap (λ more. g (f x) ∷ more) (map_twice g f xs)

pub all_under : {A B : Type 0} (f : A → B) (P : B → Type 0) (xs : List A)
    → AllByRecursion P (map f xs) → AllByRecursion (λ x. P (f x)) xs
all_under f P [] all = tt
all_under f P (x ∷ xs) all = (all.0, all_under f P xs all.1)

all_to : {A B : Type 0} (f : A → B) (P : A → Type 0) (Q : B → Type 0) → ((x : A) → P x → Q (f x))
    → (xs : List A) → AllByRecursion P xs → AllByRecursion Q (map f xs)
all_to f P Q to [] all = tt
all_to f P Q to (x ∷ xs) all = (to x all.0, all_to f P Q to xs all.1)

all_from : {A B : Type 0} (f : A → B) (P : A → Type 0) (Q : B → Type 0) → ((x : A) → Q (f x) → P x)
    → (xs : List A) → AllByRecursion Q (map f xs) → AllByRecursion P xs
all_from f P Q from [] all = tt
all_from f P Q from (x ∷ xs) all = (from x all.0, all_from f P Q from xs all.1)

short_length : (text : List ℕ) → is_short text ≡ true → length text < 2 ^ 31
short_length text short =
    let within = leb-true (length text) 65536 short in
    omega arith

pub short_text : (text : List ℕ) → is_short text ≡ true → length text ≤ 65536
short_text text short = leb-true (length text) 65536 short

pub name_bounds : (text : List ℕ) → is_name text ≡ true → (0 < length text) × (length text ≤ 256)
name_bounds text named =
    let parts = and_parts _ _ named in
    let some = leb-true 1 (length text) parts.0 in
    (omega arith, leb-true (length text) 256 parts.1)

-- ---- of an entry

IsIdentified : Entry → Type 0
IsIdentified entry = (0 < length entry.id) × (length entry.id ≤ 256)

IsAmong : (List ℕ → Bool) → Entry → Type 0
IsAmong is_folder entry = IfSome entry.folder (λ id. is_folder id ≡ true)

HasCountable : Entry → Type 0
HasCountable entry = IsCountable entry.name

module _ (lines : List PasswordLine) (document : Members) (sound : IsSound lines document)
    (folders : List FolderPlan)
    (variables : List VariablePlan)
    (same_folders : map folder_of folders ≡ map folder_in (tables document Folder))
    (same_variables : map entry_of variables ≡ map variable_in (tables document Variable)) where
  pub ids_planned : AllByRecursion HasPlannedId variables
  unfolding IsIdentified
  ids_planned =
      all_from entry_of HasPlannedId IsIdentified (λ variable held. held) variables
      (subst (AllByRecursion IsIdentified) (sym same_variables)
      (all_to variable_in (IsSoundVariable (names_in lines document).folders) IsIdentified
      (λ members held. name_bounds _ held.id) (tables document Variable) sound.variables))

  folder_ids : map (text_at (codes "id")) (tables document Folder)
      ≡ map (λ folder. folder.id.now) folders
  folder_ids =
      sym (map_twice (λ folder. folder.id) folder_in (tables document Folder))
      ∙ ap (map (λ folder. folder.id)) (sym same_folders)
      ∙ map_twice (λ folder. folder.id) folder_of folders

  lent_folder : (folder : Option (Bor (List ℕ)))
      → IfSome (option_copied folder) (λ id. (names_in lines document).folders id ≡ true)
      → IfSome folder (λ id. list_any (λ f. pointwise nat_eq f.id.now id.now) folders ≡ true)
  lent_folder None held = tt
  lent_folder (Some id) held =
      sym (any_of_mapped (λ f. f.id.now) (λ f. pointwise nat_eq f id.now) folders)
      ∙ ap (list_any (λ f. pointwise nat_eq f id.now)) (sym folder_ids)
      ∙ any_of_mapped (text_at (codes "id")) (λ f. pointwise nat_eq f id.now)
      (tables document Folder) ∙ held

  pub folders_planned : AllByRecursion (HasFolder folders) variables
  unfolding IsAmong
  folders_planned =
      all_from entry_of (HasFolder folders) (IsAmong (names_in lines document).folders)
      (λ variable held. lent_folder variable.folder held) variables
      (subst (AllByRecursion (IsAmong (names_in lines document).folders)) (sym same_variables)
      (all_to variable_in (IsSoundVariable (names_in lines document).folders)
      (IsAmong (names_in lines document).folders) (λ members held. held.folder)
      (tables document Variable) sound.variables))

  folders_short : AllByRecursion (λ folder. HasShortTexts (folder_of folder)) folders
  folders_short =
      all_under folder_of HasShortTexts folders
      (subst (AllByRecursion HasShortTexts) (sym same_folders)
      (all_to folder_in IsSoundFolder HasShortTexts
      (λ members held. (short_length _ held.id, short_length _ held.name))
      (tables document Folder) sound.folders))

  variables_short : AllByRecursion (λ variable. HasCountableName (variable_of variable)) variables
  unfolding HasCountable
  variables_short =
      all_from entry_of (λ variable. HasCountableName (variable_of variable)) HasCountable
      (λ variable held. held) variables
      (subst (AllByRecursion HasCountable) (sym same_variables)
      (all_to variable_in (IsSoundVariable (names_in lines document).folders) HasCountable
      (λ members held. short_length _ held.name) (tables document Variable) sound.variables))

  pub plan_short : (plan : Plan) → plan.folders.now ≡ folders → plan.variables.now ≡ variables
      → plan.namespace.now ≡ text_at (codes "namespace") (table_at (codes "server") document)
      → HasShortPlan plan
  plan_short plan f v n = record {
    namespace = subst IsCountable (sym n) (short_length _ sound.server.namespace);
    folders = subst (AllByRecursion (λ folder. HasShortTexts (folder_of folder)))
        (sym f) folders_short;
    variables = subst (AllByRecursion (λ variable. HasCountableName (variable_of variable)))
        (sym v) variables_short;
  }

-- ---- the space of a sound document

-- memory isn't a fault of what is asked for
never_starved : (namespace : List ℕ) (folders : List SpaceFolder) (entries : List Entry)
    → planned namespace folders entries ≢ Err build.OutOfMemory
never_starved namespace folders entries = by (nat_lt 1000 (length folders + length entries)) _ _ _
  where
    by : (a b c : Bool) (layout : Layout)
        → (if a then Err build.TooMany else if b then Err build.BadType else if c then Err
        build.DuplicateNode else Ok layout) ≢ Err build.OutOfMemory
    by true b c layout is = cc
    by false true c layout is = cc
    by false false true layout is = cc
    by false false false layout is = cc

named : (fault : BuildFault) → (fault ≡ build.OutOfMemory → ⊥) → space_fault fault ≡ Space fault
named build.DuplicateNode apart = refl
named build.BadType apart = refl
named build.TooMany apart = refl
named build.OutOfMemory apart = absurd (apart refl)

built : (made : Result Layout BuildFault) → made ≢ Err build.OutOfMemory
    → (result : Result Layout BuildFault) → IsOrStarved build.OutOfMemory made result
    → (result_map_both (λ space. space) space_fault result ≡ Err OutOfMemory)
    ⊎ (result_map_both (λ space. space) space_fault result
    ≡ result_map_both (λ space. space) Space made)
built (Ok answer) apart (Ok space) is = inr (ap Ok is)
built (Ok answer) apart (Err fault) is = inl (ap (λ f. Err (space_fault f)) is)
built (Err fault) apart result is =
    inr (ap (result_map_both (λ space. space) space_fault) is
    ∙ ap Err (named fault (λ is. apart (ap Err is))))

pub space_built : (document : Members) (plan : Plan) (result : Result Layout BuildFault)
    → plan.namespace.now ≡ text_at (codes "namespace") (table_at (codes "server") document)
    → map folder_of plan.folders.now ≡ map folder_in (tables document Folder)
    → map entry_of plan.variables.now ≡ map variable_in (tables document Variable)
    → IsOrStarved build.OutOfMemory (planned_by plan) result
    → IsSpaceOrStarved document (result_map_both (λ space. space) space_fault result)
space_built document plan result namespace folders variables is =
    let P : Result Layout BuildFault → Type 0 = λ made. IsOrStarved build.OutOfMemory made result in
    let apart = never_starved (text_at (codes "namespace") (table_at (codes "server") document))
    (map folder_in (tables document Folder)) (map variable_in (tables document Variable)) in
    built (space_in document) apart result (subst P
    (λ i. planned (namespace i) (folders i) (variables i)) is)

-- ---- the settings of a sound document

given : (values : Layout → SettingsValues) (space : Layout) (made : Result Layout BuildFault)
    → Ok space ≡ result_map_both (λ space. space) Space made
    → Ok (values space) ≡ result_map_both values Space made
given values space (Ok other) is = ap (result_map_both values (λ fault. fault)) is
given values space (Err fault) is = absurd (false≢true (sym (ap is_ok is)))

has_space : (document : Members) (space : Layout) → IsSpaceOrStarved document (Ok space)
    → Ok space ≡ result_map_both (λ space. space) Space (space_in document)
has_space document space (inl starved) = absurd (false≢true (sym (ap is_ok starved)))
has_space document space (inr is) = is

pub accepted : (lines : List PasswordLine) (document archive server : Members) (listed : Listed)
    (space : Layout) (result : Result SettingsValues SettingsFault)
    → archive ≡ table_at (codes "archive") document → server ≡ table_at (codes "server") document
    → listed ≡ listed_in lines document space → IsSpaceOrStarved document (Ok space)
    → IfOk result (λ settings. settings ≡ values_of archive server listed)
    → IfErr result (λ fault. fault ≡ OutOfMemory)
    → IsAcceptedOrStarved lines document result
accepted lines document archive server listed space (Ok settings) a s l is_space ok err =
    inr (ap Ok (ok ∙ (λ i. values_of (a i) (s i) (l i)))
    ∙ given (set_values lines document) space (space_in document)
    (has_space document space is_space))
accepted lines document archive server listed space (Err fault) a s l is_space ok err =
    inl (ap Err err)

-- memory ran out behind the nodes
pub unlisted : (lines : List PasswordLine) (document : Members) (fault : SettingsFault)
    → fault ≡ OutOfMemory → IsAcceptedOrStarved lines document (Err fault)
unlisted lines document fault starved = inl (ap Err starved)

-- nodes that make no space, or want of memory, are what the settings are refused by
pub unspaced : (lines : List PasswordLine) (document : Members) (fault : SettingsFault)
    → IsSpaceOrStarved document (Err fault) → IsAcceptedOrStarved lines document (Err fault)
unspaced lines document fault (inl starved) =
    let is : fault ≡ OutOfMemory = cc in inl (ap Err is)
unspaced lines document fault (inr is) = inr (by (space_in document) is)
  where
    by : (made : Result Layout BuildFault)
        → (let result : Result Layout SettingsFault = Err fault in result)
        ≡ result_map_both (λ space. space) Space made
        → (let result : Result SettingsValues SettingsFault = Err fault in result)
        ≡ result_map_both (set_values lines document) Space made
    by (Ok space) e = absurd cc
    by (Err cause) e = let is : fault ≡ Space cause = cc in ap Err is

pub users_same : (lines : List PasswordLine) (document server : Members) (anonymous : Bool)
    (access : Access) (named : List SessionUser) → server ≡ table_at (codes "server") document
    → anonymous ≡ truth_at (codes "anonymous") server
    → access ≡ access_at (codes "anonymous_access") server
    → named ≡ map (user_in lines) (tables document User)
    → record { anonymous = anonymous; anonymous_access = access; named = named }
    ≡ users_in lines (table_at (codes "server") document) (tables document User)
users_same lines document server anonymous access named s a may n =
    let allowed = a ∙ ap (truth_at (codes "anonymous")) s in
    let does = may ∙ ap (access_at (codes "anonymous_access")) s in
    λ i. record { anonymous = allowed i; anonymous_access = does i; named = n i }

-- what the tables list, by its parts
pub same_lists : (lines : List PasswordLine) (document : Members) (space : Layout)
    (users : Allowed) (peers : List PeerCall) (door : Option DoorSettings)
    (web : Option WebSettings) (events : Bool)
    → users ≡ (listed_in lines document space).users
    → peers ≡ (listed_in lines document space).peers
    → door ≡ (listed_in lines document space).door
    → web ≡ (listed_in lines document space).web
    → events ≡ (listed_in lines document space).events
    → (let listed : Listed = record {
      users = users;
      peers = peers;
      door = door;
      web = web;
      events = events;
      space = space;
    } in listed) ≡ listed_in lines document space
same_lists lines document space users peers door web events u p d w e =
    λ i. record {
      users = u i;
      peers = p i;
      door = d i;
      web = w i;
      events = e i;
      space = space;
    }
