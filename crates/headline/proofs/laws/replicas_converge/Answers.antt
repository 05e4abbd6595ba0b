use Rattle.std.proofs.Common.{ap, [], sym, subst, ◌∙◌}
use Rattle.records.specs.Contents.{Content}
use Rattle.headline.specs.Answers.{bytes_of}
use Rattle.headline.proofs.Times.{learned_even, same_learned}
use Rattle.headline.proofs.Alike.{same_results, same_turns}
use Rattle.headline.specs.Messages.{response_of, AreAlike}
use Rattle.headline.proofs.Messages.{messages_alike, messages_clear, free_same}
use Rattle.headline.proofs.laws.replicas_converge.Goals as goal

pub returns-clause-vectors : goal.returns-clause-vectors
returns-clause-vectors c = learned_even

pub returns-clause-contents : goal.returns-clause-contents
returns-clause-contents c = same_learned

pub returns-clause-results : goal.returns-clause-results
returns-clause-results c = λ p s t asked past a b same. let e = same_learned p s t past a b same in
    same_results s t asked e.0 e.1

pub returns-clause-bytes : goal.returns-clause-bytes
returns-clause-bytes c = λ p s t asked past a b same. let e = same_learned p s t past a b same in
    ap bytes_of (same_results s t asked e.0 e.1)

pub returns-clause-turns : goal.returns-clause-turns
returns-clause-turns c = λ p s t node query point pages others past a b same. let e =
    same_learned p s t past a b same in same_turns s t node query point pages others e.0 e.1

pub returns-clause-messages : goal.returns-clause-messages
returns-clause-messages c = λ p s t here there now then message other asked sessions others marks
    more past a b same is is' nodes asks asks'.
    let e = same_learned p s t past a b same in
    subst (λ (R : Content). AreAlike (response_of here now message sessions s.content marks)
    (response_of there then other others R more)) e.1
    (messages_alike here there now then message other asked sessions others s.content marks more
    (is ∙ (e.0 ∙ sym is')) nodes asks asks')

pub returns-clause-responses : goal.returns-clause-responses
returns-clause-responses c = λ results others alike free free'.
    ap bytes_of (free_same results others alike free free')

pub returns-clause-clear : goal.returns-clause-clear
returns-clause-clear c = λ p s t here there now then message other asked sessions others past a b
    same is is' nodes asks asks'.
    let e = same_learned p s t past a b same in
    messages_clear here there now then message other asked sessions others s.content
    (is ∙ (e.0 ∙ sym is')) nodes asks asks'
    ∙ ap (λ (R : Content). response_of there then other others R []) e.1
