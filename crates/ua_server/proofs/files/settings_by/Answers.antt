use Rattle.std.proofs.Common.{◌∙◌, ℕ, List, Ok, Err, None, Some, inr, ap, refl, subst}
use Rattle.std.specs.Prelude.{Option, option_map}
use Rattle.ua_settings.specs.declared.password.PasswordLine.{PasswordLine}
use Rattle.ua_server.specs.Passwords.{ReadsPasswords}
use Rattle.ua_server.specs.Program.{IsSetIn}
use Rattle.ua_server.specs.declared.program.ProgramFault.TheVariants.{File}
use Rattle.ua_server.proofs.files.settings_by.Goals as goal

pub returns-in-Some : goal.returns-in-Some
returns-in-Some g c =
    let means = g.H.Host.means in
    let path = c.args.path.now in
    let found = ap (option_map (λ lines. lines.items)) c.in-Some.is in
    let (set, is, taken) = c.guarded_settings.ensures in
    inr (
      Ok (Some c.in-Some.lines.items),
      subst (λ (paths : List (List ℕ)). ReadsPasswords {E = Unit {0}} means path paths
          (Ok (Some c.in-Some.lines.items)) c.args.host.now c.read_passwords.new.host)
          (c.as_slice.ensures.value ∙ c.in-Ok.ensures)
          (subst (λ (lines : Option (List PasswordLine)). ReadsPasswords {E = Unit {0}} means path
          c.as_slice.result.now (Ok lines) c.args.host.now c.read_passwords.new.host) found
          c.in-Ok-read_passwords.ensures),
      set,
      subst (λ (lines : List PasswordLine). IsSetIn lines c.args.text.now set)
          c.as_slice-in-Some.ensures.value is,
      taken,
    )

pub returns : goal.returns
returns g c =
    let means = g.H.Host.means in
    let path = c.args.path.now in
    let found = ap (option_map (λ lines. lines.items)) c.in-None.is in
    inr (
      Ok None,
      subst (λ (paths : List (List ℕ)). ReadsPasswords {E = Unit {0}} means path paths (Ok None)
          c.args.host.now c.read_passwords.new.host)
          (c.as_slice.ensures.value ∙ c.in-Ok.ensures)
          (subst (λ (lines : Option (List PasswordLine)). ReadsPasswords {E = Unit {0}} means path
          c.as_slice.result.now (Ok lines) c.args.host.now c.read_passwords.new.host) found
          c.in-Ok-read_passwords.ensures),
      Err File,
      refl,
      refl,
    )
