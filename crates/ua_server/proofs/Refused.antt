-- What is told where a server can't listen, or an address of its settings is none (`Listens`,
-- `IsServingFault`).
use Rattle.std.proofs.Common.{◌≡◌, ◌∙◌, ◌⊎◌, ℕ, inl, inr, refl, sym, ap, subst}
use Rattle.std.specs.Prelude.{Err}
use Rattle.ua_settings.specs.Settings.{SettingsValues}
use Rattle.counted_io.specs.declared.fault.ServeFault.TheVariants.{OutOfMemory}
use Rattle.conversation.specs.declared.door.Door.{Door}
use Rattle.conversation.specs.declared.door.Door.TheVariants.{Both, Clients, Peers, Browsers}
use Rattle.ua_server.specs.declared.listening.Listening.{Listening}
use Rattle.ua_server.specs.declared.program.ProgramFault.{ProgramFault}
use Rattle.ua_server.specs.declared.program.ProgramFault.TheVariants as program
use Rattle.ua_server.specs.Host.{KnownMachine}
use Rattle.ua_server.specs.Listening.{IsListening, HasNoAddress, door_fault}
use Rattle.ua_server.specs.Network.{Serving, IsServingFault}
use Rattle.ua_server.specs.Program.{IsRefusedPlace, Listens, ListensNowhere}
use Rattle.ua_server.specs.Telling.{Known, Readings}

-- why nothing is listened at: memory was wanting, or an address is none, and nothing was asked for;
-- or one can't be listened at
abbrev pub IsUnheard : (known : KnownMachine) → SettingsValues → ProgramFault
    → (old new : known.Host) → Type 0
IsUnheard known settings fault old new =
    ((fault ≡ program.Connection OutOfMemory) × (new ≡ old))
    ⊎ (HasNoAddress settings fault × (new ≡ old))
    ⊎ IsRefusedPlace known settings fault old new

module _ {C E : Type 0} (known : KnownMachine) (gave : Readings C) (told : Known E)
    (settings : SettingsValues) (count : ℕ) (old new : Serving known.Host known.Archive C E) where
  abbrev At : ProgramFault → Type 0
  At fault = ListensNowhere known settings fault old new

  -- an address is none
  no-address : (fault : ProgramFault) → HasNoAddress settings fault → new.host ≡ old.host
      → new ≡ record old { host = new.host } → At fault
  no-address program.Address none same stays = (inl (none, same), stays)
  no-address program.DoorAddress none same stays = (inl (none, same), stays)
  no-address (program.DoorNetwork number) none same stays = (inl (none, same), stays)
  no-address (program.PeerAddress number) none same stays = (inl (none, same), stays)
  no-address program.WebAddress none same stays = (inl (none, same), stays)
  no-address (program.Line fault) none same stays = absurd none
  no-address program.File none same stays = absurd none
  no-address (program.Settings fault place) none same stays = absurd none
  no-address (program.Store fault) none same stays = absurd none
  no-address program.BadHex none same stays = absurd none
  no-address program.StoreBroken none same stays = absurd none
  no-address (program.Connection fault) none same stays = absurd none
  no-address (program.Call fault) none same stays = absurd none
  no-address (program.Exchange fault) none same stays = absurd none
  no-address (program.Peer number) none same stays = absurd none
  no-address (program.NumberTwice number) none same stays = absurd none
  no-address (program.BadOption fault) none same stays = absurd none
  no-address program.NoText none same stays = absurd none
  no-address program.BadUser none same stays = absurd none
  no-address program.NoStore none same stays = absurd none
  no-address program.NoRows none same stays = absurd none
  no-address program.NoHeader none same stays = absurd none
  no-address program.UnreadRows none same stays = absurd none
  no-address (program.RowsRefused number) none same stays = absurd none
  no-address (program.Server fault) none same stays = absurd none

  -- one can't be listened at
  no-place : (listening : Listening) (door : Door) → IsListening settings listening
      → known.machine.listens old.host listening (Err door) new.host
      → new ≡ record old { host = new.host } → At (door_fault door)
  no-place listening Both is listens stays = (inr (listening, is, Both, listens, refl), stays)
  no-place listening Clients is listens stays =
      (inr (listening, is, Clients, listens, refl), stays)
  no-place listening Peers is listens stays = (inr (listening, is, Peers, listens, refl), stays)
  no-place listening Browsers is listens stays =
      (inr (listening, is, Browsers, listens, refl), stays)

  -- memory was wanting
  no-memory : new.host ≡ old.host → new ≡ record old { host = new.host } → new ≡ old
  no-memory same stays =
      let at : known.Host → Serving known.Host known.Archive C E = λ host.
      record old { host = host } in
      stays ∙ ap at same

  nowhere : (fault : ProgramFault) → IsUnheard known settings fault old.host new.host
      → new ≡ record old { host = new.host } → At fault
  nowhere fault (inl (is, same)) stays = subst At (sym is) (no-memory same stays)
  nowhere fault (inr (inl (none, same))) stays = no-address fault none same stays
  nowhere fault (inr (inr (listening, is, door, listens, e))) stays =
      subst At (sym e) (no-place listening door is listens stays)

  pub unheard : (fault : ProgramFault) → IsUnheard known settings fault old.host new.host
      → new ≡ record old { host = new.host }
      → Listens known gave told settings count old new (Err fault)
  unheard fault why stays = inr (fault, refl, nowhere fault why stays)

-- such a fault is one by which serving ends before it begins
none-serving : (settings : SettingsValues) (fault : ProgramFault) → HasNoAddress settings fault
    → IsServingFault fault
none-serving settings program.Address none = tt
none-serving settings program.DoorAddress none = tt
none-serving settings (program.DoorNetwork number) none = tt
none-serving settings (program.PeerAddress number) none = tt
none-serving settings program.WebAddress none = tt
none-serving settings (program.Line fault) none = absurd none
none-serving settings program.File none = absurd none
none-serving settings (program.Settings fault place) none = absurd none
none-serving settings (program.Store fault) none = absurd none
none-serving settings program.BadHex none = absurd none
none-serving settings program.StoreBroken none = absurd none
none-serving settings (program.Connection fault) none = absurd none
none-serving settings (program.Call fault) none = absurd none
none-serving settings (program.Exchange fault) none = absurd none
none-serving settings (program.Peer number) none = absurd none
none-serving settings (program.NumberTwice number) none = absurd none
none-serving settings (program.BadOption fault) none = absurd none
none-serving settings program.NoText none = absurd none
none-serving settings program.BadUser none = absurd none
none-serving settings program.NoStore none = absurd none
none-serving settings program.NoRows none = absurd none
none-serving settings program.NoHeader none = absurd none
none-serving settings program.UnreadRows none = absurd none
none-serving settings (program.RowsRefused number) none = absurd none
none-serving settings (program.Server fault) none = absurd none

door-serving : (door : Door) → IsServingFault (door_fault door)
door-serving Both = tt
door-serving Clients = tt
door-serving Peers = tt
door-serving Browsers = tt

pub unheard-serving : (known : KnownMachine) (settings : SettingsValues) (fault : ProgramFault)
    (old new : known.Host) → IsUnheard known settings fault old new → IsServingFault fault
unheard-serving known settings fault old new (inl (is, same)) =
    subst IsServingFault (sym is) tt
unheard-serving known settings fault old new (inr (inl (none, same))) =
    none-serving settings fault none
unheard-serving known settings fault old new (inr (inr (listening, is, door, listens, e))) =
    subst IsServingFault (sym e) (door-serving door)
