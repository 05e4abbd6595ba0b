-- An archive that begins.
use Rattle.std.specs.Prelude.{◌≡◌, ℕ, false, List, []}
use Rattle.archive.specs.Store.{Store}

-- an archive of this id and replica, in use, that holds nothing
abbrev pub HoldsNothing : List ℕ → ℕ → Store → Type 0
HoldsNothing archive replica s =
    record {
      id : s.id ≡ archive;
      own : s.own ≡ replica;
      honest : s.honest;
      whole : s.broken ≡ false;
      empty : s.content ≡ [];
    }
