use Rattle.std.proofs.Common.{◌≡◌, map, take}
use Rattle.toml.specs.View.{table_view}
use Rattle.ua_settings.specs.Reading.{peer_in}
use Rattle.ua_settings.proofs.reading.read_peers.Given as goal

abbrev pub invariant-loop-table : goal.invariant-loop-table
invariant-loop-table l = l.peers
    ≡ map (λ peer. peer_in (table_view peer.now)) (take l.table-index l.tables)
