use Rattle.std.proofs.Common.{◌∙◌, ap, subst, ℕ, List}
use Rattle.records.specs.Spelling.{GivesUnless}
use Rattle.exchange.specs.declared.fault.ExchangeFault.TheVariants as fault
use Rattle.exchange.specs.declared.message.Party.{Party}
use Rattle.exchange.specs.declared.message.State.{State}
use Rattle.exchange.specs.Dialogs.{received, AnswersTo}
use Rattle.exchange.proofs.TakeLemmas.{takes}
use Rattle.exchange.proofs.dialog.Dialog.take.Goals as goal

pub returns-clause-takes : goal.returns-clause-takes
returns-clause-takes g c =
    let a = g.A.Archive.state c.args.replica.now.archive in
    let b = g.A.Archive.state c.answer-answered.new.replica.archive in
    let by_id = ap (λ (i : List ℕ). let p : Party = record { id = i; own = c.number.result } in p)
    c.id.ensures in
    let by_number = ap (λ (n : ℕ). let p : Party = record { id = a.id; own = n } in p)
    c.number.ensures.own in
    let party = by_id ∙ by_number in
    takes a b c.args.self.now c.count.new.self c.conclude.new.self c.args.frame.kind
    c.args.out.now.items c.answer-answered.new.out.items c.conclude.new.out.items
    c.conclude.result c.count.ensures
    c.args.frame.body.now c.receive-received.result c.answer-answered.result
    (subst (λ (p : Party). GivesUnless fault.OutOfMemory c.receive-received.result
    (received p c.args.self.now c.args.frame.kind c.args.frame.body.now)) party
    c.receive-received.ensures.gives)
    (subst (λ (s : State). AnswersTo a b s c.receive-received.result c.args.out.now.items
    c.answer-answered.new.out.items c.answer-answered.result) c.state-state.ensures
    c.answer-answered.ensures.answers)
    c.conclude.ensures
