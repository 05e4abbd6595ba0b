-- The machine around a run of the program.
use Rattle.std.specs.Prelude.{ℕ, Bool, List, Option, Result}
use Rattle.std.specs.declared.net.socket_addr.SocketAddr.{SocketAddr}
use Rattle.counted_io.specs.Tally.{Tally}
use Rattle.archive.specs.declared.fault.StoreFault.{StoreFault}
use Rattle.archive.specs.Store.{Store}
use Rattle.conversation.specs.declared.door.Door.{Door}
use Rattle.ua_settings.specs.Settings.{SettingsValues}
use Rattle.ua_server.specs.declared.host.StoreTerms.{StoreTerms}
use Rattle.ua_server.specs.declared.listening.Listening.{Listening}
use Rattle.multiplex.specs.Effects.{Effects}
use Rattle.multiplex.specs.Input.{Input}
use Rattle.multiplex.specs.Output.{Output}

-- by which terms the store of settings is opened: whose archive it is, whether it is indexed, and
-- whether progress is told, as it is where events are
abbrev pub store_terms : SettingsValues → StoreTerms
store_terms settings = record {
  archive = settings.archive;
  replica = settings.replica;
  is_indexed = settings.is_indexed;
  tells_progress = settings.events;
}

-- what a machine does in a call, from its state before to that after
pub record Machine (H A L R W I : Type 0) : Type 1 where
  -- the text of the file at a path; None where it can't be read
  pub reads : H → List ℕ → Option (List ℕ) → H → Type 0
  -- the mode of the file at a path: who may read and write it; None where it can't be told
  pub modes : H → List ℕ → Option ℕ → Type 0
  -- the file of rows at a path, to be read from its beginning; None where it can't be opened
  pub opens_rows : H → List ℕ → Option I → H → Type 0
  -- a store stands at a path, or none does
  pub stands : H → List ℕ → Bool → Type 0
  -- the file at a path was opened as a store by these terms
  pub opens : H → List ℕ → StoreTerms → Result A StoreFault → H → Type 0
  -- an archive in memory by these terms, which is begun; no file is opened
  pub opens_in_memory : H → StoreTerms → Result A StoreFault → Type 0
  -- an archive by these terms that is broken
  pub opens_broken : H → StoreTerms → Result A StoreFault → H → Type 0
  -- an archive was closed
  pub closes : H → A → H → Type 0
  -- what gives the connections that come to these addresses, and calls these peers; Err with the
  -- door whose address can't be listened at
  pub listens : H → Listening → Result L Door → H → Type 0
  -- a connection with the peer at an address; None where it can't be had
  pub calls : H → SocketAddr → Option (R × W) → H → Type 0
  -- a connection with a peer was given back, with its failed calls counted
  pub parts : H → Tally R → Tally W → H → Type 0

-- a machine of which nothing is known
abbrev pub unknown_machine : {H A L R W I : Type 0} → Machine H A L R W I
unknown_machine = record {
  reads = λ old path text new. Unit {0};
  modes = λ now path mode. Unit {0};
  opens_rows = λ old path rows new. Unit {0};
  stands = λ now path is_there. Unit {0};
  opens = λ old path terms opening new. Unit {0};
  opens_in_memory = λ now terms opening. Unit {0};
  opens_broken = λ old terms opening new. Unit {0};
  closes = λ old archive new. Unit {0};
  listens = λ old listening listener new. Unit {0};
  calls = λ old address came new. Unit {0};
  parts = λ old reader writer new. Unit {0};
}

-- a machine, with what its archives hold, how connections come to an address, what is known of what
-- their other end writes, and of what it reads, the same of a peer that is called, and what is
-- unread of a file of rows
pub record KnownMachine : Type 1 where
  pub Host : Type 0
  pub Archive : Type 0
  pub Source : Type 0
  pub Reader : Type 0
  pub Writer : Type 0
  pub Rows : Type 0
  pub ClientReader : Type 0
  pub ClientWriter : Type 0
  pub machine : Machine Host Archive Source Reader Writer Rows
  pub held : Archive → Store
  pub effects : Effects Source ClientReader ClientWriter
  pub input : Input ClientReader
  pub output : Output ClientWriter
  pub unread : Reader → Option (List ℕ)
  pub written : Writer → Option (List ℕ)
  pub rows : Rows → Option (List ℕ)

-- a machine of which this is known, as its traits say it
abbrev pub known_machine : {H A S R W I P Q : Type 0} → Machine H A S R W I → (A → Store)
    → Effects S P Q → Input P → Output Q → (R → Option (List ℕ)) → (W → Option (List ℕ))
    → (I → Option (List ℕ)) → KnownMachine
known_machine {H} {A} {S} {R} {W} {I} {P} {Q}
    machine held effects input output unread written rows = record {
      Host = H;
      Archive = A;
      Source = S;
      Reader = R;
      Writer = W;
      Rows = I;
      ClientReader = P;
      ClientWriter = Q;
      machine = machine;
      held = held;
      effects = effects;
      input = input;
      output = output;
      unread = unread;
      written = written;
      rows = rows;
    }
