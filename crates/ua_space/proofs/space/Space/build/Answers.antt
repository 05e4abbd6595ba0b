use Rattle.std.proofs.Common.{sym, ap, subst, length, arith, rules}
use Rattle.std.specs.List.{AllByRecursion}
use Rattle.ua_space.specs.Space.{IsCountable, HasShortId, HasShortTexts, HasCountableName}
use Rattle.ua_space.specs.declared.fault.BuildFault.TheVariants.{OutOfMemory}
use Rattle.ua_space.proofs.Planned.{as_planned}
use Rattle.ua_space.proofs.Short.{judged_short}
use Rattle.ua_space.proofs.space.Space.build.Goals as goal

pub invariant_of-result : goal.invariant_of-result
invariant_of-result c =
    let base = judged_short c.args.plan.now c.judge.result c.in_ok-judge.field-0 c.requires.texts
    c.requires.ids c.judge.ensures c.in_ok-judge.was in
    let folders = c.in_ok-folders.ensures in
    let variables = c.in_ok-variables.ensures.made in (
      record {
        namespace = subst IsCountable (sym c.in_ok-namespace.ensures) base.namespace;
        folders = subst (AllByRecursion HasShortTexts) (sym folders) base.folders;
        ids = subst (AllByRecursion HasShortId) (sym variables) base.ids;
        names = subst (AllByRecursion HasCountableName) (sym variables) base.names;
        few = omega (arith, base.few, ap length folders, ap length variables);
      },
      c.in_ok-places.ensures,
    )

pub returns-in_err-judge : goal.returns-in_err-judge
returns-in_err-judge c = as_planned c.args.plan.now OutOfMemory _ (search rules)

pub returns-in_err-namespace : goal.returns-in_err-namespace
returns-in_err-namespace c = as_planned c.args.plan.now OutOfMemory _ (search rules)

pub returns-in_err-folders : goal.returns-in_err-folders
returns-in_err-folders c = as_planned c.args.plan.now OutOfMemory _ (search rules)

pub returns-in_err-variables : goal.returns-in_err-variables
returns-in_err-variables c = as_planned c.args.plan.now OutOfMemory _ (search rules)

pub returns-in_err-places : goal.returns-in_err-places
returns-in_err-places c = as_planned c.args.plan.now OutOfMemory _ (search rules)

pub returns : goal.returns
returns c = as_planned c.args.plan.now OutOfMemory _ (search rules)
