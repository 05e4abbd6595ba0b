use Rattle.std.proofs.Common.{sym, ap, ◌∙◌, nat_eq}
use Rattle.std.specs.Map.{lookup}
use Rattle.std.specs.Option.{option_map, ok_or}
use Rattle.ua_binary.specs.Binary.{node_of as id_of_lent}
use Rattle.ua_binary.specs.declared.codes.TheConstants.Status.{BAD_ATTRIBUTE_ID_INVALID, BAD_OUT_OF_MEMORY}
use Rattle.ua_space.specs.Space.{node_of}
use Rattle.ua_space.specs.Attributes.{attributes, IsShortAnswered}
use Rattle.ua_space.proofs.Short.{node_short, attribute_short, starved_short}
use Rattle.ua_space.proofs.space.Space.read_attribute_for.Goals as goal

pub returns-clause-short : goal.returns-clause-short
returns-clause-short c =
    let space = c.self.inside.layout in
    let node = node_of c.in-Some.node in
    let is = sym (ap (option_map node_of) c.in-Some.is) ∙ c.find.ensures in
    starved_short BAD_OUT_OF_MEMORY IsShortAnswered
    (ok_or (lookup (nat_eq c.args.attribute) (attributes space c.args.access node)) BAD_ATTRIBUTE_ID_INVALID)
    c.attribute.result
    (attribute_short space c.args.access node c.args.attribute c.self.invariant.0
    (node_short space (id_of_lent c.args.node) node c.self.invariant.0 is)) c.attribute.ensures
