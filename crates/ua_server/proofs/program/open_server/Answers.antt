use Rattle.std.proofs.Common.{◌∙◌, Ok, sym, rules}
use Rattle.ua_server.specs.Program.{line_refusal, store_use}
use Rattle.ua_server.proofs.Opened.{opened-unrefused}
use Rattle.ua_server.proofs.program.open_server.Goals as goal

pub returns-in-Err-clause-opens : goal.returns-in-Err-clause-opens
returns-in-Err-clause-opens g c =
    let settings = c.in_ok-settings.settings in (
      Ok settings,
      c.settings_at.new.host,
      search rules,
      opened-unrefused g.H.Host.means g.H.Archive.Archive.state (store_use c.args.line.now)
          (line_refusal c.args.line.now settings) settings _ c.settings_at.new.host
          c.open_archive.new.host c.open_archive.result
          (sym c.line_refusal.ensures.why ∙ c.in-None.is) (search rules) (search rules),
    )
