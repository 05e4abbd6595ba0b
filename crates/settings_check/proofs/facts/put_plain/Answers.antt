use Rattle.std.proofs.Common.{◌≡◌, ◌++◌, ◌∷◌, [], List, ℕ, subst}
use Rattle.settings_check.specs.Facts.{archive_line, store_line, listen_line, users_line, variables_line, peers_line}
use Rattle.settings_check.proofs.TextLemmas.{line-next, line-last, put}
use Rattle.settings_check.proofs.facts.put_plain.Goals as goal

pub returns : goal.returns
returns c =
    let s = c.args.settings.now in
    let result = c.extend_from_slice.result in
    let last : List (List ℕ) = peers_line s ∷ [] in
    let from_fifth : List (List ℕ) = variables_line s.space ∷ last in
    let from_fourth : List (List ℕ) = users_line s.users ∷ from_fifth in
    let from_third : List (List ℕ) = listen_line s ∷ from_fourth in
    let from_second : List (List ℕ) = store_line s ∷ from_third in
    line-next result _ _ _ _ (archive_line s) from_second c.in_ok-put_archive.ensures
    c.in_ok-push.ensures.items
    (line-next result _ _ _ _ (store_line s) from_third c.in_ok-put_store.ensures
    c.in_ok-push-2.ensures.items
    (line-next result _ _ _ _ (listen_line s) from_fourth c.in_ok-put_listen.ensures
    c.in_ok-push-3.ensures.items
    (line-next result _ _ _ _ (users_line s.users) from_fifth
    (subst (λ u. c.put_users.new.out.items ≡ c.push-3.new.self.items ++ users_line u)
    c.users.ensures c.in_ok-put_users.ensures)
    c.in_ok-push-4.ensures.items
    (line-next result _ _ _ _ (variables_line s.space) last
    (subst (λ l. c.put_variables.new.out.items ≡ c.push-4.new.self.items ++ variables_line l)
    c.space.ensures c.in_ok-put_variables.ensures)
    c.in_ok-push-5.ensures.items
    (line-last result _ _ _ (peers_line s) c.in_ok-put_peers.ensures
    (put result _ _ _ c.extend_from_slice.ensures.items))))))
