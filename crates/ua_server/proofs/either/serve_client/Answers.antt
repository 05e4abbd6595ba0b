use Rattle.std.proofs.Common.{◌≡◌, ◌∙◌, Ok, sym, ap}
use Rattle.std.specs.Result.{result_map_both}
use Rattle.ua_connection.specs.Client.{Ending as ClientEnding}
use Rattle.ua_connection.proofs.Whole.{behind_known}
use Rattle.ua_server.specs.declared.either.Served.{Served}
use Rattle.ua_server.specs.Either.{ConnectionEnding, end_of_client}
use Rattle.ua_server.proofs.either.serve_client.Goals as goal

-- how a client's connection ended, as that of any connection
abbrev mapped : ClientEnding → ConnectionEnding
mapped served = result_map_both end_of_client (λ fault. fault) served

pub returns-in-Ok-clause-serves : goal.returns-in-Ok-clause-serves
returns-in-Ok-clause-serves g c =
    let s = c.serve_wires.ensures.serves in
    let told : ◌≡◌ {A = ConnectionEnding} (Ok c.end_of_client.result) (mapped (Ok c.in-Ok.served)) =
    ap (λ (x : Served). let e : ConnectionEnding = Ok x in e) c.end_of_client.ensures in (
      s.0,
      s.1,
      c.serve_wires.result,
      told ∙ ap mapped (sym c.in-Ok.is),
      behind_known c.args.server.now.settings _ _ c.args.first.now s.2 _ _ s.0
          c.serve_wires.result s.4 s.3,
    )

pub returns-in-Err-clause-serves : goal.returns-in-Err-clause-serves
returns-in-Err-clause-serves g c =
    let s = c.serve_wires.ensures.serves in (
      s.0,
      s.1,
      c.serve_wires.result,
      ap mapped (sym c.in-Err.is),
      behind_known c.args.server.now.settings _ _ c.args.first.now s.2 _ _ s.0
          c.serve_wires.result s.4 s.3,
    )
