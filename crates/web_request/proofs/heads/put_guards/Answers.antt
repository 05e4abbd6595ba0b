use Rattle.web_request.proofs.Appending.{guarded}
use Rattle.web_request.proofs.heads.put_guards.Goals as goal

pub returns : goal.returns
returns c =
    guarded c.args.out.now.items c.put_field.new.out.items c.put_field-2.new.out.items
    c.put_field-3.new.out.items c.put_field-4.new.out.items c.put_field-5.new.out.items
    c.in_ok-put_field.ensures c.in_ok-put_field-2.ensures c.in_ok-put_field-3.ensures
    c.in_ok-put_field-4.ensures c.in_ok-put_field-5.ensures
