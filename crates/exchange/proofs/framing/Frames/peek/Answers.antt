use Rattle.std.proofs.Common.{Ok, Option, Result, ap, sym, ◌∙◌, drop}
use Rattle.std.proofs.lemmas.List.{take_rest}
use Rattle.exchange.specs.declared.fault.ExchangeFault.{ExchangeFault}
use Rattle.exchange.specs.declared.message.Header.{Header}
use Rattle.exchange.specs.Frames.{ReceivedFrames}
use Rattle.exchange.proofs.Admitting.{front}
use Rattle.exchange.proofs.framing.Frames.peek.Goals as goal

pub returns-in-Ok-Some : goal.returns-in-Ok-Some
returns-in-Ok-Some c =
    let within = rw c.in-Ok-Some.field-0-is at c.in-Ok-Some.ensures.within in
    front c.args.self.now.waiting _ c.in-Ok-Some.header
    (sym (ap (λ (o : Option Header). let r : Result (Option Header) ExchangeFault = Ok o in r)
    c.in-Ok-Some.field-0-is) ∙ c.in-Ok-Some.ensures.value)
    within.0
    (take_rest c.as_slice.result.now c.self.inside.given
    ∙ ap (drop c.self.inside.given) c.as_slice.ensures.value
    ∙ ap (λ (held : ReceivedFrames). held.waiting) c.self.view_is)
