use Rattle.std.proofs.Common.{List, ℕ, [], Ok, Err, subst}
use Rattle.std.specs.Prelude.{⊤}
use Rattle.std.specs.Io.KnownBytes.{Appends}
use Rattle.counted_io.specs.Bytes.{AppendsPart}
use Rattle.ua_space.specs.declared.layout.Layout.{Layout}
use Rattle.records.specs.Contents.{Content}
use Rattle.history_report.specs.Paging.{IsPut}
use Rattle.settings_check.specs.declared.fault.CheckFault.TheVariants as fault
use Rattle.settings_check.specs.Stored.{PrintsStored, TellsStore, check_faults}
use Rattle.settings_check.proofs.StoredLemmas.{reads-as, unprinted, whole-text}
use Rattle.settings_check.proofs.storing.print_store.Goals as goal

pub returns-in-Err-clause-prints : goal.returns-in-Err-clause-prints
returns-in-Err-clause-prints g c =
    let state = g.A.Archive.state in
    let before = g.W.Write.contents c.args.output.now.inner in
    let space = c.args.settings.now.space in
    let why = c.in-Err.fault in
    reads-as (state c.args.archive.now) (state c.tell_store.new.archive) (check_faults (Err why)) (λ R. ⊤)
    (PrintsStored space before before (Err why))
    (λ R p. unprinted space before why R c.in-Err.ensures.answers.0) c.in-Err.ensures.answers.1

pub returns-in-Ok-send-clause-prints : goal.returns-in-Ok-send-clause-prints
returns-in-Ok-send-clause-prints g c =
    let state = g.A.Archive.state in
    let before = g.W.Write.contents c.args.output.now.inner in
    let after = g.W.Write.contents c.send.new.self.inner in
    let text = c.tell_store.new.out.items in
    reads-as (state c.args.archive.now) (state c.tell_store.new.archive) []
    (λ (R : Content). IsPut c.new-text.result.items text (TellsStore c.space.result.now R))
    (PrintsStored c.args.settings.now.space before after (Ok tt))
    (λ R p. (
      text,
      subst (λ (l : Layout). TellsStore l R text) c.space.ensures
          (whole-text c.space.result.now R c.new-text.result.items text c.new-text.ensures.items p),
      subst (λ (t : List ℕ). Appends before after t) c.as_slice.ensures.value
          c.in-Ok-send.ensures.ok,
    )) c.in-Ok.ensures.answers

pub returns-clause-prints : goal.returns-clause-prints
returns-clause-prints g c =
    let state = g.A.Archive.state in
    let before = g.W.Write.contents c.args.output.now.inner in
    let after = g.W.Write.contents c.send.new.self.inner in
    let text = c.tell_store.new.out.items in
    reads-as (state c.args.archive.now) (state c.tell_store.new.archive) []
    (λ (R : Content). IsPut c.new-text.result.items text (TellsStore c.space.result.now R))
    (PrintsStored c.args.settings.now.space before after (Err fault.Write))
    (λ R p. (
      text,
      subst (λ (l : Layout). TellsStore l R text) c.space.ensures
          (whole-text c.space.result.now R c.new-text.result.items text c.new-text.ensures.items p),
      subst (λ (t : List ℕ). AppendsPart before after t) c.as_slice.ensures.value
          c.in-Err-send.ensures.part,
    )) c.in-Ok.ensures.answers
