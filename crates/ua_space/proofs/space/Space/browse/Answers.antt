use Rattle.std.proofs.Common.{sym, ap, ◌∙◌, subst, List, map, filter, Ok}
use Rattle.ua_binary.specs.declared.codes.TheConstants.Status.{BAD_OUT_OF_MEMORY}
use Rattle.ua_services.specs.Browsing.{browse_fields}
use Rattle.ua_space.specs.Space.{node_of}
use Rattle.ua_space.specs.References.{Link, link_of, shown_reference, is_followed}
use Rattle.ua_space.proofs.Short.{told_all, AreShort, starved_short}
use Rattle.ua_space.proofs.space.Space.browse.Goals as goal

pub returns-clause-short : goal.returns-clause-short
returns-clause-short c =
    let space = c.self.inside.layout in
    let node = node_of c.in-Some.node in
    let d = browse_fields c.args.description.now in
    let direction = c.in-Some-direction.direction in
    let links = ap (map link_of) c.deref.ensures.value ∙ c.in_ok-links.ensures in
    let P : List Link → Type 0 = λ links.
    AreShort (map (shown_reference d.1.1.1.1.1) (filter (is_followed direction d) links)) in
    starved_short BAD_OUT_OF_MEMORY AreShort (Ok
    (map (shown_reference d.1.1.1.1.1) (filter (is_followed direction d)
    (map link_of c.deref.result.now)))) c.tell.result
    (subst P (sym links) (told_all space d c.self.invariant.0 direction node)) c.tell.ensures
