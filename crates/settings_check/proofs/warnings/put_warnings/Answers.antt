use Rattle.std.proofs.Common.{◌≡◌, ◌++◌, List, ◌∙◌, OnOk, subst}
use Rattle.ua_settings.specs.declared.peers.PeerCall.{PeerCall}
use Rattle.settings_check.specs.Texts.{text_of}
use Rattle.settings_check.specs.Warnings.{scheme_warning, local_warning, nobody_warning, anonymous_warning, door_warning, web_warning, logins_warning, path_warning, repeated_warnings, own_warnings}
use Rattle.settings_check.proofs.TextLemmas.{next, next-last}
use Rattle.settings_check.proofs.warnings.put_warnings.Goals as goal

pub returns : goal.returns
returns c =
    let s = c.args.settings.now in
    let result = c.put_own.result in
    let seventh = c.put_path.new.out.items in
    let eighth = c.put_repeated.new.out.items in
    let new = c.put_own.new.out.items in
    next-last result _ eighth new _ (own_warnings s s.peers)
    (next _ seventh eighth _ (repeated_warnings s.peers)
    (next _ _ seventh _ (path_warning s)
    (next _ _ _ _ (logins_warning s)
    (next _ _ _ _ (web_warning s)
    (next _ _ _ _ (door_warning s)
    (next _ _ _ _ (anonymous_warning s)
    (next _ _ _ _ (nobody_warning s)
    (next _ _ _ (scheme_warning s) (local_warning s) c.in_ok-put_scheme.ensures
    c.in_ok-put_local.ensures)
    c.in_ok-put_nobody.ensures)
    c.in_ok-put_anonymous.ensures)
    c.in_ok-put_door.ensures)
    c.in_ok-put_web.ensures)
    c.in_ok-put_logins.ensures)
    c.in_ok-put_path.ensures)
    (subst (λ (l : List PeerCall). eighth ≡ seventh ++ text_of (repeated_warnings l))
    (c.as_slice.ensures ∙ c.peers.ensures) c.in_ok-put_repeated.ensures))
    (subst (λ (l : List PeerCall). OnOk result (new ≡ eighth ++ text_of (own_warnings s l)))
    (c.as_slice-2.ensures ∙ c.peers-2.ensures) c.put_own.ensures)
