-- What goes out on a connection, by what came in, and what the archive holds then.
use Rattle.std.specs.Prelude.{◌≡◌, ℕ, List, [], ◌∷◌, ◌++◌, Option, Some, Ok, Err}
use Rattle.std.specs.Io.KnownBytes.{Appends, Consumes, IsAtEnd}
use Rattle.records.specs.Contents.{Content}
use Rattle.archive.specs.Store.{Store}
use Rattle.archive.specs.Steps.{Transitions}
use Rattle.ua_settings.specs.Settings.{SettingsValues}
use Rattle.historian.specs.Services.{ServerConfig, site_of}
use Rattle.ua_connection.specs.declared.outcome.Served.TheVariants.{EndOfInput}
use Rattle.counted_io.specs.declared.fault.ServeFault.TheVariants.{Read, Write}
use Rattle.ua_connection.specs.Environments.{Environment, before, empty_environment}
use Rattle.ua_connection.specs.Passing.{LineEvent, Came, Went, came_in, came_of, went_of}
use Rattle.ua_connection.specs.Run.{Protocol, stream_answered, AnswersStream}
use Rattle.ua_connection.specs.Client.{ClientState, Ending, new_client, chunks}

-- by this, and no more, of the outside this is the whole answer to the bytes, and this stands then
abbrev pub IsEntire : {C X E : Type 0} → Protocol C X E → C → List ℕ → Environment → List ℕ → E
    → C
    → Type 0
IsEntire p start bytes used out ending last =
    (later : Environment)
    → stream_answered p start bytes (before used later)
    ≡ (record { out = out; ending = Some ending; state = last }, later)

-- this went out, and a rest that wasn't sent, of the answer to some first items
abbrev pub IsCutOff : {X : Type 0} → Protocol ClientState X Ending → ClientState → List ℕ
    → Environment → List ℕ → ClientState → Type 0
IsCutOff p start came used out last =
    (unsent rest : List ℕ) × (ending : Option Ending)
    × AnswersStream p start came used
    (record { out = out ++ unsent; ending = ending; state = last }) rest

-- This went out of the answer to the bytes that came, which ended so, and this stands then. At the
-- end of the input, and where a read failed, it is the whole answer. Where a write failed it is a
-- first part. Any other end is the answer's own, whatever would have come behind the bytes.
abbrev pub IsServed : {X : Type 0} → Protocol ClientState X Ending → ClientState → List ℕ
    → Environment → List ℕ → Ending → ClientState → Type 0
IsServed p start came used out (Ok EndOfInput) last =
    IsEntire p start came used out (Ok EndOfInput) last
IsServed p start came used out (Err Read) last = IsEntire p start came used out (Ok EndOfInput) last
IsServed p start came used out (Err Write) last = IsCutOff p start came used out last
IsServed p start came used out ending last =
    (rest : List ℕ)
    × AnswersStream p start came used
    (record { out = out; ending = Some ending; state = last }) rest

-- a client was served, of whom these first bytes were read before: by what was read and what the
-- outside gave, this was written, and what the archive holds is what the answer left
pub record ServesBehind (settings : SettingsValues) (old new : Store) (first : List ℕ)
    (unread left : Option (List ℕ)) (before after : Option (List ℕ)) (used : Environment)
    (ending : Ending) : Type 0 where
  pub came : List ℕ
  pub out : List ℕ
  pub read : Consumes unread left came
  pub over : ending ≡ Ok EndOfInput → IsAtEnd left
  pub written : Appends before after out
  pub served : Transitions old new used.marks
      (λ marks R S. (last : ClientState) × (last.content ≡ S)
      × IsServed (chunks (site_of settings old)) (record { client = new_client; content = R })
      (first ++ came) (record used { marks = marks }) out ending last)

-- a client of whom nothing was answered yet, and what the archive holds
abbrev pub new_standing : Content → ClientState
new_standing R = record { client = new_client; content = R }

-- if no more had come, this would be the whole answer, by a first part of what the outside gave
pub record IsPrompt (config : ServerConfig) (R : Content) (used : Environment)
    (came out : List ℕ) : Type 0 where
  pub now : Environment
  pub later : Environment
  pub first : before now later ≡ used
  pub last : ClientState
  pub whole : stream_answered (chunks config) (new_standing R) came now
      ≡ (record { out = out; ending = Some (Ok EndOfInput); state = last }, empty_environment)

-- whenever more was read, what was written was the whole answer to what had come
abbrev pub ArePrompt : ServerConfig → Content → Environment → (came out : List ℕ) → List LineEvent
    → Type 0
ArePrompt config R used came out [] = Unit {0}
ArePrompt config R used came out (Came piece ∷ events) =
    IsPrompt config R used came out
    × ArePrompt config R used (came ++ came_in (Came piece)) out events
ArePrompt config R used came out (Went bytes ∷ events) =
    ArePrompt config R used came (out ++ bytes) events

-- A client was served, of whom these first bytes were read before, and no answer waited for more to
-- come: by what passed and what the outside gave, the archive holds what the answer left.
pub record ServesPromptly (settings : SettingsValues) (old new : Store) (first : List ℕ)
    (events : List LineEvent) (used : Environment) (ending : Ending) : Type 0 where
  pub over : ending ≡ Ok EndOfInput
      → (front : List LineEvent) × (events ≡ front ++ Came (Some []) ∷ [])
  pub served : Transitions old new used.marks (λ marks R S.
      let config = site_of settings old in let given : Environment =
      record used { marks = marks } in
      (last : ClientState) × (last.content ≡ S)
      × IsServed (chunks config) (new_standing R) (first ++ came_of events) given
      (went_of events) ending last
      × ArePrompt config R given first [] events)
