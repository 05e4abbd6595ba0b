use Rattle.std.proofs.Common.{List, ℕ, Option, false}
use Rattle.records.specs.Contents.{Content}
use Rattle.archive.specs.declared.fault.StoreFault.{StoreFault}
use Rattle.web_connection.specs.Answers.{TellsCsv}
use Rattle.web_connection.specs.declared.sending.Sending.{Sending}
use Rattle.web_connection.proofs.AskingLemmas.{made-alone}
use Rattle.web_connection.proofs.PageLemmas.{csv-alone, csv-goes, result-as}
use Rattle.web_connection.proofs.history.told_csv.Goals as goal

pub returns-then-head_only-clause-answers : goal.returns-then-head_only-clause-answers
returns-then-head_only-clause-answers g c =
    let state = g.A.Archive.state in
    made-alone (state c.args.archive.now) _
    (λ R. csv-alone R c.args.question c.args.head_only c.args.chunked
    c.in_ok-history_head.field-0.items c.if-head_only.true
    c.in_ok-history_head.ensures)

pub returns-clause-answers : goal.returns-clause-answers
returns-clause-answers g c =
    let state = g.A.Archive.state in
    let question = c.args.question in
    let head_only = c.args.head_only in
    let chunked = c.args.chunked in
    result-as (state c.args.archive.now) (state c.begin_csv.new.archive) c.begin_csv.result
    (λ (R : Content) (faults : List StoreFault) (text : List ℕ) (sending : Option Sending).
    TellsCsv R question false chunked faults text sending)
    (λ (R : Content) (faults : List StoreFault) (text : List ℕ) (sending : Option Sending).
    TellsCsv R question head_only chunked faults text sending)
    (λ R faults text sending p. csv-goes R question head_only chunked faults text sending
    c.if-head_only.false p) c.begin_csv.ensures.answers
