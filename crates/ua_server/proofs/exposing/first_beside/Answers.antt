use Rattle.std.proofs.Common.{◌∙◌, Bool, List, ℕ, Some, false, true, sym, subst}
use Rattle.ua_server.specs.Exposing.{ExposesBeside, IsFirstBeside}
use Rattle.ua_server.proofs.ExposedFiles.{one-closed, first-open}
use Rattle.ua_server.proofs.exposing.first_beside.Goals as goal

pub returns-then-branch : goal.returns-then-branch
returns-then-branch g c =
    let means = g.H.Host.means in
    let host = c.args.host.now in
    let settings = c.args.settings.now in
    let paths = c.args.paths.now in
    subst (λ (path : List ℕ). IsFirstBeside means host settings paths (Some path))
    (sym (c.as_str-then-branch.ensures.same ∙ c.path-item.is))
    (first-open means host settings paths c.loop-path.path-index c.path-item.result
    c.loop-path-test.true c.loop-path.invariant
    (subst (ExposesBeside means host settings true) (c.as_str.ensures.same ∙ c.path-item.is)
    (subst (λ (exposed : Bool). ExposesBeside means host settings exposed c.as_str.result.now)
    c.if-branch.true c.in_ok-exposes_beside.ensures)))

pub loop-path-preserved : goal.loop-path-preserved
loop-path-preserved g c =
    let means = g.H.Host.means in
    let host = c.args.host.now in
    let settings = c.args.settings.now in
    one-closed means host settings c.args.paths.now c.loop-path.path-index c.path-item.result
    c.loop-path-test.true c.loop-path.invariant
    (subst (ExposesBeside means host settings false) (c.as_str.ensures.same ∙ c.path-item.is)
    (subst (λ (exposed : Bool). ExposesBeside means host settings exposed c.as_str.result.now)
    c.if-branch.false c.in_ok-exposes_beside.ensures))
