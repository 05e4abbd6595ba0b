use Rattle.std.proofs.Common.{◌++◌, ◌+◌, List, map, drop, arith, ap, sym, ◌∙◌, append_assoc}
use Rattle.std.specs.List.{flat_map}
use Rattle.ua_binary.specs.declared.values.NodeId.{NodeId}
use Rattle.ua_space.specs.Space.{OfFolder, node_at}
use Rattle.settings_check.specs.Nodes.{variables_below}
use Rattle.settings_check.proofs.NodeLemmas.{id_told, next_folder}
use Rattle.settings_check.proofs.nodes.put_foldered.Goals as goal

pub loop-folder-preserved : goal.loop-folder-preserved
loop-folder-preserved c =
    let space = c.args.space.now in
    let i = c.loop-folder.folder-index in
    let out = c.loop-folder.out.items in
    let ids = map id_told c.in_ok-variables_below.field-0 in
    let rest = flat_map (λ folder. variables_below space (OfFolder folder))
    (drop (i + 1) space.folders) in
    record {
      appends = ap (λ (l : List NodeId). l ++ rest) c.in_ok-put_ids.ensures
          ∙ (append_assoc out ids rest ∙ (ap (λ (l : List NodeId). out ++ l)
          (sym (next_folder space c.args.folders.now i c.folder-item.result ids (omega arith)
          c.requires (λ n is. c.in_ok-variables_below.ensures n
          (ap (node_at space) (c.as_ref.ensures.same ∙ ap id_told c.folder-item.is) ∙ is))))
          ∙ c.loop-folder.invariant.appends));
    }
