use Rattle.headline.proofs.Times.{lawful_was}
use Rattle.headline.proofs.Updates.{recorded, has_learned, has_latest, later_from}
use Rattle.headline.proofs.Shown.{own_shown, replaced_shown, live_shown, none_shown, reached}
use Rattle.headline.proofs.Paging.{reading_shows}
use Rattle.headline.proofs.laws.every_update_stands.Goals as goal

pub returns-clause-recorded : goal.returns-clause-recorded
returns-clause-recorded c = recorded

pub returns-clause-learned : goal.returns-clause-learned
returns-clause-learned c = has_learned

pub returns-clause-latest : goal.returns-clause-latest
returns-clause-latest c = has_latest

pub returns-clause-told : goal.returns-clause-told
returns-clause-told c = λ p t r stamps pages past was h reading reaches is.
    let lawful = lawful_was p t past was in
    let both = reading_shows p past t was r.node
    (lawful.records r h).node c.args.details c.whole_reads.ensures.details stamps
    c.whole_reads.ensures.shows pages reading in
    own_shown t.content lawful.closed r c.args.details stamps reaches pages both.0 both.1 is h

pub returns-clause-live : goal.returns-clause-live
returns-clause-live c = λ p t r stamps pages past was latest reading reaches is written.
    let lawful = lawful_was p t past was in
    let both = reading_shows p past t was r.node
    (lawful.records r latest.there).node c.args.details c.whole_reads.ensures.details stamps
    c.whole_reads.ensures.shows pages reading in
    live_shown t.content lawful.closed r c.args.details stamps reaches pages both.0 both.1 is latest
    written

pub returns-clause-gone : goal.returns-clause-gone
returns-clause-gone c = λ p t r stamps pages past was latest reading reaches is deleted.
    let lawful = lawful_was p t past was in
    let both = reading_shows p past t was r.node
    (lawful.records r latest.there).node c.args.details c.whole_reads.ensures.details stamps
    c.whole_reads.ensures.shows pages reading in
    none_shown t.content lawful.closed r c.args.details stamps reaches pages both.0 both.1 is latest
    deleted

pub returns-clause-replaced : goal.returns-clause-replaced
returns-clause-replaced c = λ p t r stamps pages past was h later reading reaches is written.
    let lawful = lawful_was p t past was in
    let both = reading_shows p past t was r.node
    (lawful.records r h).node c.args.details c.whole_reads.ensures.details stamps
    c.whole_reads.ensures.shows pages reading in
    replaced_shown t.content lawful.closed r c.args.details stamps reaches pages both.0 both.1 is h
    (later_from p t r past was h later) written

pub returns-clause-reached : goal.returns-clause-reached
returns-clause-reached c = λ p t r modified past was h.
    reached t.content r modified (lawful_was p t past was) h
