use Rattle.std.proofs.Common.{◌≡◌, refl}
use Rattle.ua_peers.specs.declared.calling.SyncFault.{SyncFault}
use Rattle.ua_peers.specs.declared.calling.SyncFault.TheVariants.{Connection, Exchange, Peer}
use Rattle.web_page.specs.Calls.{cause_words}
use Rattle.conversation.specs.Closing.{call_cause}
use Rattle.ua_server.specs.Telling.{fault_text, sync_fault}
use Rattle.ua_server.proofs.laws.a_calls_fault_is_told_alike.Goals as goal

alike : (fault : SyncFault) → cause_words (call_cause fault) ≡ fault_text (sync_fault fault)
alike (Connection cause) = refl
alike (Exchange cause) = refl
alike (Peer number) = refl

pub returns : goal.returns
returns c = alike
