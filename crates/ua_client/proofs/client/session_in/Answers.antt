use Rattle.std.proofs.Common.{◌≡◌, [], Ok, map, sym, subst}
use Rattle.ua_binary.specs.declared.values.NodeId.{NodeId}
use Rattle.ua_binary.specs.Binary.{node_of}
use Rattle.ua_services.specs.Sessions.{create_session_response}
use Rattle.ua_client.specs.Answers.{endpoint_in}
use Rattle.ua_client.proofs.client.session_in.Goals as goal

pub returns-clause-session : goal.returns-clause-session
returns-clause-session c =
    let granted = c.in_ok-granted.granted in
    let P : NodeId → Type 0 = λ token. create_session_response.read c.args.told.now
    ≡ Ok ((node_of granted.session_id, (token, (granted.timeout, (map endpoint_in granted.endpoints.items, granted.max_request_size)))), []) in (
      node_of granted.session_id,
      (granted.timeout, (map endpoint_in granted.endpoints.items, granted.max_request_size)),
      subst P (sym c.in_ok-to_owned.ensures) c.in_ok-granted.ensures,
    )
