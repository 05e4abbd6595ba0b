use Rattle.std.proofs.Common.{◌∙◌, Bool, Ok, Err, ap, refl, subst}
use Rattle.std.proofs.lemmas.Result.{err_from_is_err_and}
use Rattle.ua_server.specs.Exposing.{JudgesStrict}
use Rattle.ua_server.proofs.files.guarded_settings.Goals as goal

pub returns-in_err-settings : goal.returns-in_err-settings
returns-in_err-settings g c =
    let p = err_from_is_err_and c.from_residual.result c.from_residual.ensures.1 in
    (Err c.in_err-settings.field-0.0, c.in_err-settings.ensures, p.1 ∙ ap Err p.2)

pub returns-in-Ok : goal.returns-in-Ok
returns-in-Ok g c = (
  Ok c.in_ok-settings.settings,
  c.in_ok-settings.ensures,
  (
    Ok tt,
    subst (λ (strict : Bool). JudgesStrict g.H.Host.means c.args.host.now c.args.path.now
        c.args.text.now strict (Ok tt)) c.is_strict.ensures c.in-Ok.ensures,
    refl,
  ),
)

pub returns-in-Err : goal.returns-in-Err
returns-in-Err g c = (
  Ok c.in_ok-settings.settings,
  c.in_ok-settings.ensures,
  (
    Err c.in-Err.fault,
    subst (λ (strict : Bool). JudgesStrict g.H.Host.means c.args.host.now c.args.path.now
        c.args.text.now strict (Err c.in-Err.fault)) c.is_strict.ensures c.in-Err.ensures,
    refl,
  ),
)
