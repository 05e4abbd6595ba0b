use Rattle.std.proofs.Common.{Option, None, Some, refl, subst, sym, ◌∙◌}
use Rattle.web_page.specs.Calls.{overview_of}
use Rattle.web_connection.specs.Answers.{GoesFurther, Makes, sending_of}
use Rattle.web_connection.specs.declared.sending.Sending.{Sending}
use Rattle.web_connection.specs.declared.sending.Told.{Told}
use Rattle.web_connection.proofs.StepLemmas.{DeniesNext, Nexts, step-sent, step-starved, step-waits}
use Rattle.web_connection.proofs.connection.take_step.Goals as goal

pub returns-in-Ok-None-clause-answers : goal.returns-in-Ok-None-clause-answers
returns-in-Ok-None-clause-answers g c =
    let state = g.A.Archive.state in
    let v = overview_of c.args.overview in
    let came = c.args.came.now in
    let sending = c.args.sending.now in
    let old = state c.args.archive.now in
    let new = state c.tell_next.new.archive in
    let told = subst (λ (o : Option Told). Nexts v came c.take.result old new o)
    c.in-Ok-None.field-0-is c.in-Ok-None.ensures.answers in
    let denies = subst (λ (o : Option Told). DeniesNext v.settings came c.take.result o)
    c.in-Ok-None.field-0-is c.in-Ok-None.ensures.denied in
    step-waits v came sending c.take.new.self old new c.args.out.now.items
    (sym c.take.ensures.value ∙ told.0) c.take.ensures.after told.1 told.2
    (subst (λ (o : Option Sending). DeniesNext v.settings came o None) c.take.ensures.value denies)

pub returns-in-Ok-Some-clause-answers : goal.returns-in-Ok-Some-clause-answers
returns-in-Ok-Some-clause-answers g c =
    let state = g.A.Archive.state in
    let v = overview_of c.args.overview in
    let came = c.args.came.now in
    let old = state c.args.archive.now in
    let new = state c.tell_next.new.archive in
    let told = c.in-Ok-Some.told in
    let made = subst (λ (o : Option Told). Nexts v came c.take.result old new o)
    c.in-Ok-Some.field-0-is c.in-Ok-Some.ensures.answers in
    let denies = subst (λ (o : Option Told). DeniesNext v.settings came c.take.result o)
    c.in-Ok-Some.field-0-is c.in-Ok-Some.ensures.denied in
    step-sent v came c.args.sending.now c.send.new.sending told.rest old new told.text.items
    c.send.result c.args.out.now.items c.send.new.out.items
    (subst (λ (o : Option Sending). Makes old new
    (λ R faults. GoesFurther v R came o faults told.text.items (sending_of told.rest)))
    c.take.ensures.value made)
    (subst (λ (o : Option Sending). DeniesNext v.settings came o (Some told)) c.take.ensures.value denies)
    c.send.ensures.ok c.send.ensures.err

pub returns-in-Err-clause-answers : goal.returns-in-Err-clause-answers
returns-in-Err-clause-answers g c =
    let state = g.A.Archive.state in
    step-starved (overview_of c.args.overview) c.args.came.now c.args.sending.now c.take.new.self
    (state c.args.archive.now) (state c.tell_next.new.archive) c.in-Err.field-0
    c.args.out.now.items c.args.out.now.items refl c.in-Err.ensures.answers
