-- How a client begins.
use Rattle.std.proofs.Common.{◌≡◌, ℕ, List, Ok, refl}
use Rattle.std.proofs.KnownBytes.{Appends-trans, Consumes-trans}
use Rattle.ua_binary.specs.declared.values.NodeId.TheVariants.{Numeric}
use Rattle.uacp.specs.declared.greeting.Ack.{Ack}
use Rattle.ua_client.specs.declared.responses.Opened.{Opened}
use Rattle.ua_client.specs.Answers.{acknowledge_in}
use Rattle.ua_client.specs.Asking.{greeting, opening}
use Rattle.ua_client.specs.Talking.{Flow, SendsBytes, HearsBytes, hello_asked, AnswersOpening, Connects}

-- a greeting that was acknowledged, and an opening that was answered
pub connects-so : (before between after : Flow) (lifetime : ℕ) (ack : Ack) (opened : Opened)
    → SendsBytes before between (greeting hello_asked) → SendsBytes between after (opening 1 1 lifetime)
    → (chunk : List ℕ) × HearsBytes before between chunk × (acknowledge_in chunk ≡ Ok ack)
    → (chunk : List ℕ) × HearsBytes between after chunk × AnswersOpening chunk opened
    → Connects (record {
      limit = ack.receive_size;
      token = opened.token;
      number = 2;
      heard = 2;
      request = 2;
      session = Numeric 0 0;
    }) lifetime before after
connects-so before between after lifetime ack opened greets opens first second = record {
  ack = ack;
  opened = opened;
  first = first.0;
  second = second.0;
  sends = Appends-trans before.sent between.sent after.sent (greeting hello_asked)
      (opening 1 1 lifetime) greets opens;
  hears = Consumes-trans before.unread between.unread after.unread first.0 second.0
      first.1 second.1;
  acknowledges = first.2;
  opens = second.2;
  begins = refl;
}
