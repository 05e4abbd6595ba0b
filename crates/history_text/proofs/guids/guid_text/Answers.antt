use Rattle.std.proofs.Common.{◌≡◌, Some, ap, subst, sym, ◌∙◌}
use Rattle.std.specs.Str.{IsAscii}
use Rattle.history_text.specs.Guids.{guid_in, guid_text}
use Rattle.history_text.proofs.GuidsLemmas.{guid_again}
use Rattle.history_text.proofs.AsciiLemmas.{guid_ascii}
use Rattle.history_text.proofs.guids.guid_text.Goals as goal

pub returns-clause-read : goal.returns-clause-read
returns-clause-read c =
    let g = c.spelled-guid.result in
    let fits = c.spelled-guid.ensures.fits in
    let read : guid_in (guid_text g) ≡ Some g =
    guid_again g fits.0 fits.1 fits.2 fits.3 c.in_ok-text.ensures.fits in
    ap guid_in c.in_ok-text.ensures.written ∙ read ∙ ap Some c.spelled-guid.ensures.same

pub returns-clause-ascii : goal.returns-clause-ascii
returns-clause-ascii c = subst IsAscii (sym c.in_ok-text.ensures.written)
    (guid_ascii c.spelled-guid.result)
