use Rattle.std.proofs.Common.{◌∙◌, ◌+◌, ℕ, List, take, Ok, Err, Some, None, sym, subst}
use Rattle.std.specs.Prelude.{Option, option_map}
use Rattle.std.specs.Result.{result_map_both}
use Rattle.std.specs.declared.alloc.AllocError.{AllocError}
use Rattle.std.proofs.lemmas.Result.{err_from_is_err_and}
use Rattle.ua_settings.specs.declared.password.PasswordLine.{PasswordLine}
use Rattle.ua_server.specs.Passwords.{ReadsPassword, ReadsPasswords}
use Rattle.ua_server.proofs.Passwords.{same-one, starved-behind, one-more, none-there, starved-there}
use Rattle.ua_server.proofs.files.read_passwords.Goals as goal

pub returns-in_err-line : goal.returns-in_err-line
returns-in_err-line g c =
    let means = g.H.Host.means in
    let settings = c.args.settings.now in
    let paths = c.args.paths.now in
    let p = err_from_is_err_and c.from_residual.result c.from_residual.ensures.1 in
    subst (λ result. ReadsPasswords means settings paths
    (result_map_both (option_map (λ lines. lines.items)) (λ starved. tt {0}) result) c.args.host.now
    c.read_password.new.host) (sym p.1)
    (starved-there means settings paths c.loop-path.path-index c.path-item.result
    c.loop-path.lines.items c.args.host.now c.loop-path.host c.read_password.new.host
    c.loop-path-test.true c.loop-path.invariant
    (subst (λ (path : List ℕ). ReadsPassword {E = Unit {0}} means settings path (Err tt)
    c.loop-path.host c.read_password.new.host) (c.as_str.ensures.same ∙ c.path-item.is)
    c.in_err-line.ensures))

pub returns-in_err-push-in-Some : goal.returns-in_err-push-in-Some
returns-in_err-push-in-Some g c =
    let means = g.H.Host.means in
    let settings = c.args.settings.now in
    let paths = c.args.paths.now in
    let p = err_from_is_err_and c.from_residual-in_err-push-in-Some.result
    c.from_residual-in_err-push-in-Some.ensures.1 in
    let one = same-one means settings AllocError c.as_str.result.now c.in_ok-line.field-0
    c.loop-path.host
    c.read_password.new.host c.in_ok-line.ensures in
    subst (λ result. ReadsPasswords means settings paths
    (result_map_both (option_map (λ lines. lines.items)) (λ starved. tt {0}) result) c.args.host.now
    c.read_password.new.host) (sym p.1)
    (starved-there means settings paths c.loop-path.path-index c.path-item.result
    c.loop-path.lines.items c.args.host.now c.loop-path.host c.read_password.new.host
    c.loop-path-test.true c.loop-path.invariant
    (subst (λ (path : List ℕ). ReadsPassword {E = Unit {0}} means settings path (Err tt)
    c.loop-path.host c.read_password.new.host) (c.as_str.ensures.same ∙ c.path-item.is)
    (starved-behind means settings c.as_str.result.now c.in-Some.line c.loop-path.host
    c.read_password.new.host
    (subst (λ (found : Option PasswordLine). ReadsPassword {E = Unit {0}} means settings
    c.as_str.result.now (Ok found) c.loop-path.host c.read_password.new.host) c.in-Some.is one))))

pub returns-in-None : goal.returns-in-None
returns-in-None g c =
    let means = g.H.Host.means in
    let settings = c.args.settings.now in
    let paths = c.args.paths.now in
    let one = same-one means settings AllocError c.as_str.result.now c.in_ok-line.field-0
    c.loop-path.host
    c.read_password.new.host c.in_ok-line.ensures in
    none-there means settings paths c.loop-path.path-index c.path-item.result
    c.loop-path.lines.items c.args.host.now c.loop-path.host c.read_password.new.host
    c.loop-path-test.true c.loop-path.invariant
    (subst (λ (path : List ℕ). ReadsPassword {E = Unit {0}} means settings path (Ok None)
    c.loop-path.host c.read_password.new.host) (c.as_str.ensures.same ∙ c.path-item.is)
    (subst (λ (found : Option PasswordLine). ReadsPassword {E = Unit {0}} means settings
    c.as_str.result.now (Ok found) c.loop-path.host c.read_password.new.host) c.in-None.is one))

pub loop-path-preserved : goal.loop-path-preserved
loop-path-preserved g c =
    let means = g.H.Host.means in
    let settings = c.args.settings.now in
    let paths = c.args.paths.now in
    let one = same-one means settings AllocError c.as_str.result.now c.in_ok-line.field-0
    c.loop-path.host
    c.read_password.new.host c.in_ok-line.ensures in
    subst (λ (lines : List PasswordLine). ReadsPasswords {E = Unit {0}} means settings
    (take (c.loop-path.path-index + 1) paths) (Ok (Some lines)) c.args.host.now
    c.read_password.new.host) (sym c.in_ok-push-in-Some.ensures.items)
    (one-more means settings paths c.loop-path.path-index c.path-item.result
    c.loop-path.lines.items c.in-Some.line c.args.host.now c.loop-path.host
    c.read_password.new.host c.loop-path-test.true c.loop-path.invariant
    (subst (λ (path : List ℕ). ReadsPassword {E = Unit {0}} means settings path
    (Ok (Some c.in-Some.line)) c.loop-path.host c.read_password.new.host)
    (c.as_str.ensures.same ∙ c.path-item.is)
    (subst (λ (found : Option PasswordLine). ReadsPassword {E = Unit {0}} means settings
    c.as_str.result.now (Ok found) c.loop-path.host c.read_password.new.host) c.in-Some.is one)))
