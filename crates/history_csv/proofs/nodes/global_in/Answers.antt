use Rattle.std.proofs.Common.{◌≡◌, None, ok_or, sym, ap, ◌∙◌, inr}
use Rattle.std.specs.Option.{option_map}
use Rattle.ua_binary.specs.declared.values.NodeId.TheVariants as Id
use Rattle.history_text.specs.Guids.{guid_in}
use Rattle.history_csv.specs.declared.fault.RowFault.TheVariants as Fault
use Rattle.history_csv.proofs.NodesLemmas.{guid_read}
use Rattle.history_csv.proofs.nodes.global_in.Goals as goal

pub returns-in-Ok : goal.returns-in-Ok
returns-in-Ok c =
    let none : guid_in c.args.text.now ≡ None =
    sym (guid_read (guid_in c.args.text.now) c.in-Ok.value c.in-Ok.ensures)
    ∙ sym c.guid_of.ensures ∙ c.in-None.is in
    inr (ap (λ o. ok_or (option_map (Id.Global c.args.namespace) o) Fault.Node) none)
