use Rattle.std.proofs.Common.{◌≡◌, None, Some, Ok, Err, ap, sym, subst, ◌∙◌}
use Rattle.std.specs.Prelude.{Option, Result, IfOk, IfErr, unwrap_or}
use Rattle.std.specs.Option.{option_copied}
use Rattle.ua_binary.specs.declared.codes.Status.{Status}
use Rattle.archive.specs.Steps.{Refines}
use Rattle.ua_services.specs.declared.history.HistoryReadResult.{HistoryReadResult}
use Rattle.hist_read.specs.Carrying.{TellsWithin}
use Rattle.hist_read.specs.Node.{refused_read, read_node}
use Rattle.hist_read.proofs.node.read_node.Goals as goal

pub returns-clause-acts : goal.returns-clause-acts
returns-clause-acts g c =
    let a = g.A.Archive.state c.args.archive.now in
    let b = g.A.Archive.state c.read_node_within.new.archive in
    let (used, read, acts, tells) = c.read_node_within.ensures.acts in
    let is : c.in-Some.result ≡ read = (subst (λ o. TellsWithin None o read) c.in-Some.is tells).0 in (
      used,
      subst (λ (r : HistoryReadResult). Refines a b used (read_node a.id c.args.node.now
          c.args.query.now (option_copied c.args.continuation)) r) (sym is) acts,
    )

-- one that is told is the result
told : (o : Option HistoryReadResult) (x y : HistoryReadResult) → o ≡ Some x → o ≡ Some y → x ≡ y
told o x y is other = ap (λ (p : Option HistoryReadResult). unwrap_or p x) (sym is ∙ other)

pub returns-clause-refused : goal.returns-clause-refused
returns-clause-refused g c = by _ _ c.read_node_within.ensures.refused
  where
    by : {A : Type 0} (r : Result A Status) (P : Type 0)
        → IfErr r (λ code. (c.read_node_within.result ≡ Some (refused_read code)) × P)
        → IfErr r (λ code. (c.in-Some.result ≡ refused_read code) × P)
    by (Ok x) P k = tt
    by (Err code) P k = (told _ _ _ c.in-Some.is k.0, k.1)

pub returns-clause-ended : goal.returns-clause-ended
returns-clause-ended g c = λ broken. by _ _ (c.read_node_within.ensures.ended broken)
  where
    by : {A : Type 0} {B : Type 0} (r : Result A B) (wanted : HistoryReadResult)
        → IfOk r (λ x. c.read_node_within.result ≡ Some wanted)
        → IfOk r (λ x. c.in-Some.result ≡ wanted)
    by (Ok x) wanted k = told _ _ _ c.in-Some.is k
    by (Err code) wanted k = tt
