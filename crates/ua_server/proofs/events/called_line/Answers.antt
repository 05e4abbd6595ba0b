use Rattle.std.proofs.Common.{◌≡◌, ◌∙◌, List, ℕ, Ok, sym, subst}
use Rattle.std.specs.Prelude.{Result, IfOk}
use Rattle.std.specs.Int.{w64}
use Rattle.std.proofs.lemmas.Int.{to_z-of_z}
use Rattle.event_lines.specs.Lines.{IsEventLine, call_text}
use Rattle.event_lines.specs.declared.lines.Moved.{Moved}
use Rattle.ua_peers.specs.declared.calling.SyncFault.{SyncFault}
use Rattle.ua_server.specs.Telling.{fault_text, sync_fault}
use Rattle.ua_server.specs.Logging.{call_reason, moved_of}
use Rattle.ua_server.proofs.events.called_line.Goals as goal

pub returns-in-Ok : goal.returns-in-Ok
returns-in-Ok c =
    let P : Result (Unit {0}) SyncFault → Moved → Type 0 = λ outcome moved.
    IfOk c.call_line.result (λ line. IsEventLine c.args.at
    (call_text c.args.address.now (call_reason outcome) moved) line.items) in
    let first : P (Ok c.in-Ok.field-0) c.moved_of.result =
    rw (to_z-of_z w64 c.args.at c.ranges.at) at c.call_line.ensures in
    subst (λ outcome. P outcome (moved_of c.args.moved)) (sym c.in-Ok.is)
    (subst (λ moved. P (Ok c.in-Ok.field-0) moved) c.moved_of.ensures first)

pub returns-in-Err : goal.returns-in-Err
returns-in-Err c =
    let fault = c.in-Err.fault in
    let P : List ℕ → Moved → Type 0 = λ reason moved.
    IfOk c.call_line-in-Err.result (λ line. IsEventLine c.args.at
    (call_text c.args.address.now reason moved) line.items) in
    let Q : Result (Unit {0}) SyncFault → Type 0 = λ outcome.
    P (call_reason outcome) (moved_of c.args.moved) in
    let reason : c.as_str.result.now ≡ fault_text (sync_fault fault) =
    c.as_str.ensures.value ∙ c.fault_text.ensures in
    let first : P c.as_str.result.now c.moved_of-in-Err.result =
    rw (to_z-of_z w64 c.args.at c.ranges.at) at c.call_line-in-Err.ensures in
    subst Q (sym c.in-Err.is)
    (subst (λ r. P r (moved_of c.args.moved)) reason
    (subst (λ moved. P c.as_str.result.now moved) c.moved_of-in-Err.ensures first))
