use Rattle.std.proofs.Common.{◌≡◌, take, ◌∙◌, ◌≤◌, ◌+◌, length, ℕ, List, Option, Some, Result, Ok, Err, ap, sym, subst}
use Rattle.std.proofs.lemmas.Result.{err_from_is_err_and}
use Rattle.records.specs.declared.record.Record.{Record}
use Rattle.exchange.specs.declared.fault.ExchangeFault.{ExchangeFault}
use Rattle.exchange.specs.Ahead.{first_records, lacking_of, piece, LearnsAhead}
use Rattle.exchange.specs.Dialogs.{DialogState, capped, party_of}
use Rattle.exchange.proofs.AheadLemmas.{ahead_asked, ahead_fails, ahead_learned, ahead_met}
use Rattle.exchange.proofs.dialog.Dialog.learn_ahead.Goals as goal

pub returns-in_err-held-clause-learns : goal.returns-in_err-held-clause-learns
returns-in_err-held-clause-learns g c =
    let a = g.A.Archive.state c.args.replica.now.archive in
    let b = g.A.Archive.state c.vector.new.self in
    let s = c.args.self.now in
    let rs = first_records (party_of a) s c.args.frames.now.waiting in
    let p = err_from_is_err_and c.from_residual.result c.from_residual.ensures.1 in
    subst (λ (r : Result (Option ℕ) ExchangeFault). LearnsAhead a b s s rs r)
    (sym (p.1 ∙ ap Err p.2))
    (ahead_fails a b s rs c.in_err-held.field-0.0 _ c.in_err-held.ensures.asks)

pub returns-in_default-piece_end-clause-learns : goal.returns-in_default-piece_end-clause-learns
returns-in_default-piece_end-clause-learns g c =
    ahead_asked _ _ c.args.self.now _ c.in_ok-held.held _ c.in_ok-held.ensures.asks

pub returns-in_err-added-clause-learns : goal.returns-in_err-added-clause-learns
returns-in_err-added-clause-learns g c =
    let a = g.A.Archive.state c.args.replica.now.archive in
    let b = g.A.Archive.state c.vector.new.self in
    let d = g.A.Archive.state c.learn_each.new.archive in
    let s = c.args.self.now in
    let wanted = first_records (party_of a) s c.args.frames.now.waiting in
    let p = err_from_is_err_and c.from_residual-in_err-added.result
    c.from_residual-in_err-added.ensures.1 in
    let fault = c.in_err-added.field-0.0 in
    subst (λ (r : Result (Option ℕ) ExchangeFault). LearnsAhead a d s s wanted r)
    (sym (p.1 ∙ ap Err p.2))
    (subst (λ (rs : List Record). LearnsAhead a d s s rs (Err fault)) (c.as_slice-2.ensures ∙ c.in-Some.ensures.0)
    (ahead_met a b d s c.as_slice-2.result.now c.in-Some-piece_end.end
    (subst (λ (rs : List Record). c.in-Some-piece_end.end ≤ length rs) (c.as_slice.ensures ∙ sym c.as_slice-2.ensures) c.in-Some-piece_end.ensures.end)
    c.in_ok-held.held c.in_ok-held.ensures.asks (subst (λ (rs : List Record). lacking_of c.in_ok-held.held (take c.in-Some-piece_end.end rs) ≡ piece) (c.as_slice.ensures ∙ sym c.as_slice-2.ensures) c.in-Some-piece_end.ensures.lacking) fault
    c.in_err-added.ensures.merges))

pub returns-clause-learns : goal.returns-clause-learns
returns-clause-learns g c =
    let a = g.A.Archive.state c.args.replica.now.archive in
    let b = g.A.Archive.state c.vector.new.self in
    let d = g.A.Archive.state c.learn_each.new.archive in
    let s = c.args.self.now in
    let added = c.in_ok-added.added in
    let wanted = first_records (party_of a) s c.args.frames.now.waiting in
    subst (λ (t : DialogState). LearnsAhead a d s t wanted (Ok (Some added)))
    (sym c.count_learned.ensures)
    (subst (λ (rs : List Record). LearnsAhead a d s (record s { learned = capped (s.learned + added) }) rs (Ok (Some added))) (c.as_slice-2.ensures ∙ c.in-Some.ensures.0)
    (ahead_learned a b d s c.as_slice-2.result.now c.in-Some-piece_end.end
    (subst (λ (rs : List Record). c.in-Some-piece_end.end ≤ length rs) (c.as_slice.ensures ∙ sym c.as_slice-2.ensures) c.in-Some-piece_end.ensures.end)
    c.in_ok-held.held c.in_ok-held.ensures.asks (subst (λ (rs : List Record). lacking_of c.in_ok-held.held (take c.in-Some-piece_end.end rs) ≡ piece) (c.as_slice.ensures ∙ sym c.as_slice-2.ensures) c.in-Some-piece_end.ensures.lacking) added
    c.in_ok-added.ensures.merges))
