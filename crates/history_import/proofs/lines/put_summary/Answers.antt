use Rattle.std.proofs.Common.{◌∙◌, string_bytes, append_assoc}
use Rattle.history_import.proofs.LineLemmas.{put-next, put-last}
use Rattle.history_import.proofs.lines.put_summary.Goals as goal

pub returns : goal.returns
returns c =
    let before = string_bytes c.args.text.now in
    put-last c.push_str.result before _ _ _ _
    (put-next before _ _ _ _
    (put-next before _ _ _ _
    (put-next before _ _ _ _
    (put-next before _ _ _ _
    (c.in_ok-put_rows.ensures ∙ append_assoc before _ _)
    c.in_ok-put_part.ensures) c.in_ok-put_part-2.ensures) c.in_ok-put_part-3.ensures)
    c.in_ok-put_part-4.ensures) c.push_str.ensures.bytes
