use Rattle.web_request.proofs.Appending.{told}
use Rattle.web_request.proofs.heads.put_facts.Goals as goal

pub returns : goal.returns
returns c =
    told c.args.answer c.args.out.now.items c.put_field.new.out.items c.put_framing.new.out.items
    c.put_field-2.new.out.items c.kind_text.result.now c.connection_text.result.now
    c.kind_text.ensures c.connection_text.ensures c.in_ok-put_field.ensures
    c.in_ok-put_framing.ensures c.in_ok-put_field-2.ensures
