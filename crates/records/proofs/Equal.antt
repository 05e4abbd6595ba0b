-- `==` of records is exact.
use Rattle.std.proofs.Common.{rules, ◌≡◌, refl}
use Rattle.std.specs.Cmp.{signed_Decides, unsigned_Decides}
use Rattle.std.specs.Cmp.Lexicographic.{bytes_decides}
use Rattle.std.proofs.lemmas.Bool.Decides.{same_from_decides}
use Rattle.ua_binary.specs.contracts.values.NodeIdPartialEq as node
use Rattle.ua_binary.specs.declared.values.NodeId.{NodeId}
use Rattle.ua_variant.proofs.Equal.{IsExact, pairs, through, nodes, data_values}
use Rattle.stamp.specs.contracts.stamps.ReplicaNoPartialEq as replica
use Rattle.ua_variant.specs.contracts.update_type.HistoryUpdateTypePartialEq as asked
use Rattle.records.specs.contracts.record.RecordPartialEq as whole
use Rattle.records.specs.declared.record.Record.{Record}
use Rattle.records.specs.Same.{same_record, same_node}
use Rattle.records.proofs.SameParts.{record_code, node_code}
use Rattle.records.proofs.Same.{Decides-is_same}

replicas : IsExact (replica.TheImpl.eq-value).it
replicas a b = search rules

requests : IsExact (asked.TheImpl.eq-value).it
requests a b = search rules

pub records : IsExact (whole.TheImpl.eq-value).it
records = through (λ r.
    (r.origin, (r.number, (r.tick, (r.node, (r.time, (r.asked, (r.user, r.value))))))))
    (λ p. record {
      origin = p.0;
      number = p.1.0;
      tick = p.1.1.0;
      node = p.1.1.1.0;
      time =
          p.1.1.1.1.0;
      asked = p.1.1.1.1.1.0;
      user = p.1.1.1.1.1.1.0;
      value = p.1.1.1.1.1.1.1;
    })
    (λ _. refl)
    (pairs replicas (pairs unsigned_Decides (pairs signed_Decides (pairs nodes (pairs signed_Decides
    (pairs requests (pairs bytes_decides data_values)))))))

pub same_records : (a b : Record) → (whole.TheImpl.eq-value).it a b ≡ same_record a b
same_records a b = same_from_decides _ _ (records a b) (Decides-is_same record_code a b)

pub same_nodes : (a b : NodeId) → (node.TheImpl.eq-value).it a b ≡ same_node a b
same_nodes a b = same_from_decides _ _ (nodes a b) (Decides-is_same node_code a b)

pub ruleset exact = (records, same_records)
