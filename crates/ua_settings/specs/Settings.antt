-- What a server is set to.
use Rattle.std.specs.Prelude.{◌≤◌, List, [], ℕ, length, replicate, codes, Bool, true, false, None}
use Rattle.ua_session.specs.declared.identity.Access.TheVariants.{Write}
use Rattle.ua_settings.specs.declared.after_break.AfterBreak.{AfterBreak}
use Rattle.ua_settings.specs.declared.after_break.AfterBreak.TheVariants.{GoOn}
use Rattle.ua_settings.specs.declared.settings.Parts.{Parts}

-- the archive's id, the number of this replica of it, and the file of its store, none for memory;
-- where the server listens, the URL of its endpoint, the URI of the application; who may use it;
-- its nodes; how many connections it serves at a time, and how many MiB may wait to be written;
-- the peers that it calls, where peers come to it, if not to the address where clients do, and
-- where browsers come to it, if they do; what it does once its store is broken, whether its archive
-- has an index of live values, whether others may have a hand in its files, and from how many
-- milliseconds on a turn is told; after how many refused logins from one address its next ones
-- wait, and whether what happens is told
abbrev pub SettingsValues : Type 0
SettingsValues = Parts

-- without settings: replica 1 of the archive whose id is all zeros, in memory; any user without a
-- name; no variables; no peers
unfoldable pub bare : SettingsValues
bare = record {
  archive = replicate 16 0;
  replica = 1;
  store = None;
  listen = codes "127.0.0.1:4840";
  url = codes "opc.tcp://localhost:4840";
  application = codes "urn:uahist";
  users = record { anonymous = true; anonymous_access = Write; named = [] };
  space = record { namespace = codes "urn:uahist:archive"; folders = []; variables = [] };
  connections = 64;
  waiting = 256;
  peers = [];
  door = None;
  web = None;
  after_break = GoOn;
  is_indexed = false;
  is_strict = false;
  slow = None;
  logins = None;
  events = false;
}

-- over a store that is broken nobody is served: `serve` ends, or opens it anew
abbrev pub ends_serving : AfterBreak → Bool
ends_serving choice = elim choice [ GoOn ↦ false | _ ↦ true ]

-- a text of settings has at most 65,536 bytes
abbrev pub IsSettingsText : List ℕ → Type 0
IsSettingsText text = length text ≤ 65536
