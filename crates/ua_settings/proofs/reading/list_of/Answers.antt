use Rattle.std.proofs.Common.{map, ap, sym, subst, ◌∙◌}
use Rattle.std.specs.List.{AllByRecursion}
use Rattle.toml.specs.View.{table_view}
use Rattle.ua_settings.specs.Reading.{user_in, peer_in}
use Rattle.ua_settings.specs.Sound.{IsSoundUser, IsSoundPeer}
use Rattle.ua_settings.proofs.Plans.{map_twice, all_under, same_lists, users_same}
use Rattle.ua_settings.proofs.reading.list_of.Goals as goal

pub read_users-requires : goal.read_users-requires
read_users-requires c =
    all_under (λ table. table_view table.now) IsSoundUser c.as_slice.result.now
    (subst (AllByRecursion IsSoundUser) (sym
    (ap (map (λ table. table_view table.now)) c.as_slice.ensures.value
    ∙ c.in_ok-users.ensures)) c.requires.sound.users)

pub read_peers-requires : goal.read_peers-requires
read_peers-requires c =
    all_under (λ table. table_view table.now) IsSoundPeer c.as_slice-2.result.now
    (subst (AllByRecursion IsSoundPeer) (sym
    (ap (map (λ table. table_view table.now)) c.as_slice-2.ensures.value
    ∙ c.in_ok-peers.ensures)) c.requires.sound.peers)

pub returns-clause-ok : goal.returns-clause-ok
returns-clause-ok c =
    let lines = c.args.passwords.now in
    let document = table_view c.args.document.now in
    let users = ap (map (λ table. table_view table.now)) c.as_slice.ensures.value
    ∙ c.in_ok-users.ensures in
    let peers = ap (map (λ table. table_view table.now)) c.as_slice-2.ensures.value
    ∙ c.in_ok-peers.ensures in
    let named = sym (map_twice (user_in lines) (λ table. table_view table.now)
    c.as_slice.result.now) ∙ ap (map (user_in lines)) users in
    let called = sym (map_twice peer_in (λ table. table_view table.now) c.as_slice-2.result.now)
    ∙ ap (map peer_in) peers in
    same_lists lines document c.args.space _ _ _ _ _
    (c.in_ok-read_users.ensures.ok ∙ users_same lines document (table_view c.args.server.now)
    c.truth-anonymous.result c.access-anonymous_access.result
    (map (λ user. user_in lines (table_view user.now)) c.as_slice.result.now) c.requires.same
    c.truth-anonymous.ensures c.access-anonymous_access.ensures named)
    (c.in_ok-read_peers.ensures.ok ∙ called) c.in_ok-read_door.ensures c.in_ok-read_web.ensures
    c.tells_events.ensures
