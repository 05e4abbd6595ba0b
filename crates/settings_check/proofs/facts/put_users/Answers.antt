use Rattle.std.proofs.Common.{◌≡◌, ◌++◌, List, ℕ, OnOk, codes, ap, ◌∙◌, subst}
use Rattle.settings_check.specs.Facts.{named_words, anonymous_words}
use Rattle.settings_check.proofs.TextLemmas.{join, two, put}
use Rattle.settings_check.proofs.facts.put_users.Goals as goal

pub returns : goal.returns
returns c =
    let users = c.args.users.now in
    let result = c.extend_from_slice-3.result in
    let old = c.args.out.now.items in
    let between = c.extend_from_slice-2.new.self.items in
    let new = c.extend_from_slice-3.new.self.items in
    two result old between new (named_words users ++ codes "; without a name: ")
    (anonymous_words users)
    (join old c.extend_from_slice.new.self.items between (named_words users)
    (codes "; without a name: ")
    (c.in_ok-extend_from_slice.ensures.items ∙ ap (λ (t : List ℕ). old ++ t) c.named_words.ensures)
    c.in_ok-extend_from_slice-2.ensures.items)
    (subst (λ (t : List ℕ). OnOk result (new ≡ between ++ t)) c.anonymous_words.ensures
    (put result new _ _ c.extend_from_slice-3.ensures.items))
