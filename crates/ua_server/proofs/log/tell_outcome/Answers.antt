use Rattle.std.proofs.Common.{sym, subst}
use Rattle.std.specs.Prelude.{Option, OnOk, OnErr}
use Rattle.std.specs.Io.KnownBytes.{Appends}
use Rattle.counted_io.specs.Bytes.{AppendsPart}
use Rattle.ua_peers.specs.declared.calling.SyncFault.{SyncFault}
use Rattle.ua_server.specs.Telling.{call_lines, outcome_text}
use Rattle.ua_server.proofs.log.tell_outcome.Goals as goal

pub returns-in-None-clause-ok : goal.returns-in-None-clause-ok
returns-in-None-clause-ok g c =
    let old = g.W.Write.contents c.args.errors.now.inner in
    let new = g.W.Write.contents c.tell_call.new.errors.inner in
    subst (λ (fault : Option SyncFault).
    OnOk c.tell_call.result
    (Appends old new (call_lines c.args.address.now (outcome_text fault))))
    (sym c.in-None.is) c.tell_call.ensures.ok

pub returns-in-None-clause-part : goal.returns-in-None-clause-part
returns-in-None-clause-part g c =
    let old = g.W.Write.contents c.args.errors.now.inner in
    let new = g.W.Write.contents c.tell_call.new.errors.inner in
    subst (λ (fault : Option SyncFault).
    OnErr c.tell_call.result
    (AppendsPart old new (call_lines c.args.address.now (outcome_text fault))))
    (sym c.in-None.is) c.tell_call.ensures.part
