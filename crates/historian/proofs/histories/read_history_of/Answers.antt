use Rattle.std.proofs.Common.{◌≡◌, ◌∙◌, true, false, cond, List, ◌∷◌, Some, Ok, refl, sym, ap, subst, arith}
use Rattle.std.specs.Prelude.{Bool, Option, ◌&&◌, not, nat_le}
use Rattle.ua_binary.specs.declared.values.NodeId.{NodeId}
use Rattle.ua_binary.specs.Rules.{checked}
use Rattle.ua_services.specs.History.{HistoryReadFields, history_read_fields}
use Rattle.ua_services.specs.declared.history.HistoryReadResult.{HistoryReadResult}
use Rattle.ua_space.specs.declared.layout.Layout.{Layout}
use Rattle.records.specs.Contents.{Content}
use Rattle.archive.specs.Steps.{Refines, and_then, give}
use Rattle.archive.specs.Store.{Store, StepResult, Done, NoMemory}
use Rattle.ua_binary.specs.declared.codes.TheConstants.Status.{GOOD, BAD_OUT_OF_MEMORY}
use Rattle.hist_read.specs.Carrying.{IsReadTooLong, TellsWithin}
use Rattle.hist_read.specs.Node.{refused_read, read_node}
use Rattle.hist_read.proofs.Carried.{refused_within}
use Rattle.hist_read.specs.declared.query.Query.{Query}
use Rattle.historian.specs.Answers.{longest_response}
use Rattle.historian.specs.Reading.{history_rules, read_history_of, released}
use Rattle.historian.proofs.ReadingParts.{history_by}
use Rattle.historian.proofs.Items.{acts-none, acts-starved, acts-past, acts-made}
use Rattle.historian.proofs.histories.read_history_of.Goals as goal

-- a node that was read, and what is told of that
past : (a b : Store) (space : Layout) (query : Query) (release : Bool) (item : HistoryReadFields)
    (node : NodeId) (read : HistoryReadResult)
    → checked (history_rules space item) ≡ Ok tt → node ≡ item.0
    → ((used : List StepResult) × Refines a b used (read_node a.id node query item.1.1.1) read)
    → (used : List StepResult)
    × Refines a b used (read_history_of a.id space query release item) (released release read)
past a b space query release item node read passed same acts =
    let P : NodeId → Type 0 = λ id. (used : List StepResult)
    × Refines a b used (read_node a.id id query item.1.1.1) read in
    let rest = λ (R : Content). and_then (read_node a.id item.0 query item.1.1.1 R)
    (λ p. give (released release p.0, p.1)) in
    acts-past a b (read_history_of a.id space query release item) rest (released release read)
    (acts-made a b (read_node a.id item.0 query item.1.1.1) rest (released release) read
    (released release read) (subst P same acts) (λ R marks. refl) refl)
    (λ R marks. ap (λ r. history_by a.id query release item R r (Done ∷ marks)) passed)

-- what is shown of a read that isn't too long isn't too long either
shown-within : (release : Bool) (read value shown : HistoryReadResult)
    → TellsWithin (Some longest_response) (Some read) value → shown ≡ released release read
    → TellsWithin (Some longest_response) (Some shown) (released release value)
shown-within release read value shown within is = (
  is ∙ ap (released release) within.0,
  by (release && not (nat_le 2147483648 value.status.0)),
)
  where
    by : (is_less : Bool) → IsReadTooLong (cond is_less (refused_read GOOD) value) longest_response → ⊥
    by true long =
        (refused_within longest_response GOOD (refused_read GOOD) refl (omega arith)).1 long
    by false long = within.1 long

pub returns-in-Err-clause-acts : goal.returns-in-Err-clause-acts
returns-in-Err-clause-acts g c =
    let s = g.A.Archive.state c.args.archive.now in
    let item = history_read_fields c.args.item in
    let acts = acts-none s
    (read_history_of s.id c.args.space.now c.args.terms.query c.args.terms.release item)
    c.nothing.result (λ R marks.
    ap (λ r. history_by s.id c.args.terms.query c.args.terms.release item R r marks)
    (sym c.judge_history.ensures.told ∙ c.in-Err.is)
    ∙ ap (λ x. give (x, R) marks) (sym c.nothing.ensures.told)) in (
      acts.0,
      c.nothing.result,
      acts.1,
      refused_within longest_response c.in-Err.status c.nothing.result c.nothing.ensures.told (omega arith),
    )

pub returns-in_default-to_owned-clause-acts : goal.returns-in_default-to_owned-clause-acts
returns-in_default-to_owned-clause-acts g c =
    let s = g.A.Archive.state c.args.archive.now in
    let item = history_read_fields c.args.item in
    let acts = acts-starved s
    (read_history_of s.id c.args.space.now c.args.terms.query c.args.terms.release item)
    c.nothing-in_default-to_owned.result (λ R later.
    ap (λ r. history_by s.id c.args.terms.query c.args.terms.release item R r (NoMemory ∷ later))
    (sym c.judge_history.ensures.told ∙ c.in_default.is)
    ∙ ap (λ x. give (x, R) later) (sym c.nothing-in_default-to_owned.ensures.told)) in (
      acts.0,
      c.nothing-in_default-to_owned.result,
      acts.1,
      refused_within longest_response BAD_OUT_OF_MEMORY c.nothing-in_default-to_owned.result
          c.nothing-in_default-to_owned.ensures.told (omega arith),
    )

pub returns-in_default-read_node_within-clause-acts :
    goal.returns-in_default-read_node_within-clause-acts
returns-in_default-read_node_within-clause-acts g c =
    let a = g.A.Archive.state c.args.archive.now in
    let b = g.A.Archive.state c.read_node_within.new.archive in
    let release = c.args.terms.release in
    let (used, value, acts, within) = c.read_node_within.ensures.acts in
    let all = past a b c.args.space.now c.args.terms.query release
    (history_read_fields c.args.item) _ value
    (sym c.judge_history.ensures.told ∙ c.in_default.is) c.in-Ok.ensures (used, acts) in (
      all.0,
      released release value,
      all.1,
      c.too_long.ensures.told value
          (subst (λ (o : Option HistoryReadResult). TellsWithin (Some longest_response) o value)
          c.in_default-read_node_within.is within),
    )

pub returns-clause-acts : goal.returns-clause-acts
returns-clause-acts g c =
    let a = g.A.Archive.state c.args.archive.now in
    let b = g.A.Archive.state c.read_node_within.new.archive in
    let release = c.args.terms.release in
    let (used, value, acts, within) = c.read_node_within.ensures.acts in
    let all = past a b c.args.space.now c.args.terms.query release
    (history_read_fields c.args.item) _ value
    (sym c.judge_history.ensures.told ∙ c.in_default.is) c.in-Ok.ensures (used, acts) in (
      all.0,
      released release value,
      all.1,
      shown-within release c.in-Some.read value c.released.result
          (subst (λ (o : Option HistoryReadResult). TellsWithin (Some longest_response) o value)
          c.in-Some.is within) c.released.ensures.told,
    )
