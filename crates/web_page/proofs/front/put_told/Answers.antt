use Rattle.std.proofs.Common.{◌≡◌, ◌++◌, OnOk, subst, w64, arith}
use Rattle.std.specs.Int.RustNames.{FitsSigned}
use Rattle.std.proofs.lemmas.Int.{ints, to_z-of_z}
use Rattle.std.specs.Prelude.{slice_get}
use Rattle.ua_space.specs.declared.layout.Layout.{Layout}
use Rattle.web_page.specs.Front.{front_row}
use Rattle.web_page.proofs.RowLemmas.{told-put}
use Rattle.web_page.proofs.front.put_told.Goals as goal

pub returns : goal.returns
returns c =
    let texts = c.in_ok-latest.latest in
    let old = c.args.out.now.items in
    let new = c.put_row.new.out.items in
    let small : FitsSigned w64 c.args.overview.now = omega (arith, ints, c.type_inv.overview) in
    told-put c.put_row.result old new c.args.overview.settings.now.space c.args.overview.now
    c.args.listed.now (slice_get c.args.values.now 0) texts.value.items texts.status.items
    texts.time.items texts.age.items
    (rw (to_z-of_z w64 c.args.overview.now small) at c.in_ok-latest.ensures)
    (subst (λ (space : Layout). OnOk c.put_row.result (new ≡ old
    ++ front_row space c.args.listed.now texts.value.items texts.status.items texts.time.items
    texts.age.items)) c.space.ensures c.put_row.ensures)
