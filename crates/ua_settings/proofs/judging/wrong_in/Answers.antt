use Rattle.std.proofs.Common.{◌+◌, ◌<◌, map, length, sym, ap, ◌∙◌, arith}
use Rattle.std.proofs.lemmas.List.{get_or-map, length-map}
use Rattle.std.specs.Option.{option_copied}
use Rattle.toml.specs.View.{table_view}
use Rattle.ua_settings.specs.Judging.{wrong_key}
use Rattle.ua_settings.specs.Keys.{known_of}
use Rattle.ua_settings.proofs.Wrongs.{goes_on, stops}
use Rattle.ua_settings.proofs.judging.wrong_in.Goals as goal

pub returns-in-Some : goal.returns-in-Some
returns-in-Some c =
    let here : c.loop-i.i < length c.args.tables.now = omega arith in
    let there : c.loop-i.i < length (map (λ table. table_view table.now) c.args.tables.now) =
    simp length-map here in
    let seen = get_or-map (λ table. table_view table.now) c.args.tables.now c.loop-i.i
    c.index-tables-i.result (table_view c.index-tables-i.result.now) here
    ∙ ap (λ table. table_view table.now) (sym c.index-tables-i.is) in
    sym (c.loop-i.invariant ∙ stops (known_of c.args.known.now) c.args.wrong c.args.section
    (c.loop-i.i + 1) c.loop-i.i (map (λ table. table_view table.now) c.args.tables.now)
    (table_view c.index-tables-i.result.now) c.in-Some.key.now there
    (ap (wrong_key (known_of c.args.known.now) c.args.wrong c.args.section) seen
    ∙ sym c.in-Some.ensures))

pub loop-i-preserved : goal.loop-i-preserved
loop-i-preserved c =
    let here : c.loop-i.i < length c.args.tables.now = omega arith in
    let there : c.loop-i.i < length (map (λ table. table_view table.now) c.args.tables.now) =
    simp length-map here in
    let seen = get_or-map (λ table. table_view table.now) c.args.tables.now c.loop-i.i
    c.index-tables-i.result (table_view c.index-tables-i.result.now) here
    ∙ ap (λ table. table_view table.now) (sym c.index-tables-i.is) in
    c.loop-i.invariant ∙ goes_on (known_of c.args.known.now) c.args.wrong c.args.section
    (c.loop-i.i + 1) c.loop-i.i (map (λ table. table_view table.now) c.args.tables.now)
    (table_view c.index-tables-i.result.now) there
    (ap (wrong_key (known_of c.args.known.now) c.args.wrong c.args.section) seen
    ∙ sym c.wrong_key.ensures ∙ ap option_copied c.in_default.is)
