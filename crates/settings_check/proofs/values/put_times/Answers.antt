use Rattle.settings_check.proofs.ValueLemmas.{puts-times}
use Rattle.settings_check.proofs.values.put_times.Goals as goal

pub returns : goal.returns
returns c =
    puts-times c.put_moment-2.result c.args.out.now.items c.extend_from_slice.new.self.items
    c.put_moment.new.out.items c.extend_from_slice-2.new.self.items c.put_moment-2.new.out.items
    c.args.first c.args.last c.in_ok-extend_from_slice.ensures.items
    c.in_ok-put_moment.ensures c.in_ok-extend_from_slice-2.ensures.items c.put_moment-2.ensures
