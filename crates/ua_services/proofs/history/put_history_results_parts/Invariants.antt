use Rattle.std.proofs.Common.{◌≡◌, ◌++◌, take, map, length, pos}
use Rattle.std.specs.List.{All, flat_map}
use Rattle.std.specs.Int.{w32}
use Rattle.ua_binary.specs.Binary.{signed}
use Rattle.ua_services.specs.History.{history_fields, history_read_result}
use Rattle.ua_services.proofs.history.put_history_results_parts.Given as goal

abbrev pub invariant-loop-v : goal.invariant-loop-v
invariant-loop-v l = record {
  puts : l.out.items ≡ l.fn.out.items ++ ((signed w32).canon (pos (length l.results))
      ++ flat_map history_read_result.canon (map history_fields (take l.v-index l.results)));
  spelled : All (λ r. history_read_result.Fits (history_fields r)) (take l.v-index l.results);
}
