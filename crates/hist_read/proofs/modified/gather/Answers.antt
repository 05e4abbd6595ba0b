use Rattle.std.proofs.Common.{◌≡◌, ◌+◌, ◌-◌, ◌^◌, ◌<◌, ◌≤◌, ◌⊎◌, inl, inr, false, true, List, ◌++◌, map, min, take, length, Some, sym, ap, arith, ◌∙◌}
use Rattle.std.specs.Option.{option_copied}
use Rattle.std.proofs.lemmas.Bool.{ltb-false}
use Rattle.ua_binary.specs.Format.{saturated}
use Rattle.stamp.specs.Numbers.{number_of}
use Rattle.records.specs.Lists.{last}
use Rattle.records.specs.Contents.{cut}
use Rattle.records.specs.declared.shown.Entry.{Entry}
use Rattle.archive.specs.Reading.{log_of}
use Rattle.hist_read.specs.Carrying.{values_length}
use Rattle.hist_read.specs.Reads.{entries_behind}
use Rattle.hist_read.specs.Gathering.{value_in}
use Rattle.hist_read.proofs.Askings.{page_as, page_long}
use Rattle.hist_read.proofs.Cutting.{lawful_cut}
use Rattle.hist_read.proofs.Gathering.{size_append, too_long, place_behind, entries_gather_on}
use Rattle.hist_read.proofs.modified.gather.Goals as goal
use Rattle.hist_read.proofs.modified.gather.Goals.{in-Some, in_default, then-is_full, else-is_full}

pub returns-then-is_exceeded-clause-finds : goal.returns-then-is_exceeded-clause-finds
returns-then-is_exceeded-clause-finds g c start =
    let a = g.A.Archive.state c.args.archive.now in
    let R = cut a.content (number_of c.args.scope.now.within) in
    let node = c.args.node.now in
    let q = c.args.details.now in
    let old = c.args.gathered.now in
    let next = c.in_ok-next.next.items in
    let new = c.match-last.gathered in
    let all = c.append.new.self.items in
    let told : last next ≡ option_copied c.last.result =
    ap last (sym c.deref.ensures.value) ∙ sym c.last.ensures.value in
    let same : (new.entries.items ≡ old.entries.items) × (new.wanted ≡ old.wanted) × (new.size ≡ old.size)
    × (new.reached ≡ place_behind (last next) old.reached) =
    elim c.match-last.branch [
      | in-Some w ↦ (
        ap (λ x. x.entries.items) w.gathered-is,
        ap (λ x. x.wanted) w.gathered-is,
        ap (λ x. x.size) w.gathered-is,
        ap (λ x. x.reached) w.gathered-is ∙ ap Some w.place_of.ensures
            ∙ sym (ap (λ o. place_behind o old.reached) (told ∙ ap option_copied w.in-Some.is)),
      )
      | in_default w ↦ (
        ap (λ x. x.entries.items) w.gathered-is,
        ap (λ x. x.wanted) w.gathered-is,
        ap (λ x. x.size) w.gathered-is,
        ap (λ x. x.reached) w.gathered-is
            ∙ sym (ap (λ o. place_behind o old.reached) (told ∙ ap option_copied w.in_default.is)),
      )
    ] in
    let grown : all ≡ old.entries.items ++ next =
    c.in_ok-append.ensures.items ∙ ap (λ l. l ++ next) same.0 in
    let small : c.min-limit.result ≤ old.wanted - length old.entries.items = omega (
      arith,
      c.min-limit.ensures,
      c.saturating_sub.ensures,
      c.len.ensures,
      old.entries.ok,
    ) in
    let size = size_append value_in old.entries.items next old.size c.size_of.result
    c.saturating_add-gathered.result c.requires.size (c.size_of.ensures
    ∙ ap (λ (l : List Entry). saturated (values_length (map value_in l))) c.deref-2.ensures.value)
    (c.saturating_add-gathered.ensures
    ∙ ap (λ n. min (n + c.size_of.result) (2 ^ 64 - 1)) same.2)
    ∙ ap (λ (l : List Entry). saturated (values_length (map value_in l))) (sym grown) in
    let (limit, is, long) = too_long value_in c.args.scope.now.longest old.wanted
    c.saturating_add-gathered.result (entries_behind R node q start) all
    (omega (
      arith,
      c.if-count-gathered.true,
      c.len-count.ensures,
      same.1,
      c.append.new.self.ok,
    )) size (c.is_exceeded.ensures.0 c.if-is_exceeded.true) in
    page_long a _ c.args.scope.now.longest c.in_ok-next.next _ _ _ c.in_ok-next.ensures.asks (
      limit,
      is,
      λ lawful found so_far. long (entries_gather_on R node q
          (lawful_cut _ (number_of c.args.scope.now.within) lawful) c.body-span.result.from c.body-span.result.to
          c.body-span.ensures start c.min-limit.result next old (record {
            entries = c.append.new.self;
            wanted = new.wanted;
            size = c.saturating_add-gathered.result;
            reached = new.reached;
            portion = c.portion_behind-gathered.result;
          }) true
          (found ∙ ap (λ d. take c.min-limit.result (log_of R node c.body-span.result.from
          c.body-span.result.to old.reached d)) c.direction-onward.ensures)
          grown same.1 small same.3 (λ e. absurd cc) so_far).0.first,
    )

pub returns-clause-finds : goal.returns-clause-finds
returns-clause-finds g c start =
    let a = g.A.Archive.state c.args.archive.now in
    let R = cut a.content (number_of c.args.scope.now.within) in
    let node = c.args.node.now in
    let q = c.args.details.now in
    let old = c.args.gathered.now in
    let next = c.in_ok-next.next.items in
    let new = c.match-last.gathered in
    let all = c.append.new.self.items in
    let told : last next ≡ option_copied c.last.result =
    ap last (sym c.deref.ensures.value) ∙ sym c.last.ensures.value in
    let same : (new.entries.items ≡ old.entries.items) × (new.wanted ≡ old.wanted) × (new.size ≡ old.size)
    × (new.reached ≡ place_behind (last next) old.reached) =
    elim c.match-last.branch [
      | in-Some w ↦ (
        ap (λ x. x.entries.items) w.gathered-is,
        ap (λ x. x.wanted) w.gathered-is,
        ap (λ x. x.size) w.gathered-is,
        ap (λ x. x.reached) w.gathered-is ∙ ap Some w.place_of.ensures
            ∙ sym (ap (λ o. place_behind o old.reached) (told ∙ ap option_copied w.in-Some.is)),
      )
      | in_default w ↦ (
        ap (λ x. x.entries.items) w.gathered-is,
        ap (λ x. x.wanted) w.gathered-is,
        ap (λ x. x.size) w.gathered-is,
        ap (λ x. x.reached) w.gathered-is
            ∙ sym (ap (λ o. place_behind o old.reached) (told ∙ ap option_copied w.in_default.is)),
      )
    ] in
    let grown : all ≡ old.entries.items ++ next =
    c.in_ok-append.ensures.items ∙ ap (λ l. l ++ next) same.0 in
    let small : c.min-limit.result ≤ old.wanted - length old.entries.items = omega (
      arith,
      c.min-limit.ensures,
      c.saturating_sub.ensures,
      c.len.ensures,
      old.entries.ok,
    ) in
    let ending : c.if-is_full.result ≡ false
    → (length next < c.min-limit.result) ⊎ (old.wanted ≤ length all) =
    elim c.if-is_full.branch [
      | then-is_full w ↦ λ e. inr (omega (
        arith,
        ltb-false _ _ (sym w.result-is ∙ e),
        c.len-count.ensures,
        same.1,
        c.append.new.self.ok,
      ))
      | else-is_full w ↦ λ e. inl (omega (
        arith,
        w.if-is_full.false,
        c.len-2.ensures,
        c.in_ok-next.next.ok,
      ))
    ] in
    page_as a _ c.args.scope.now.longest c.in_ok-next.next c.if-is_full.result _ _ _
    c.in_ok-next.ensures.asks (λ lawful found so_far. entries_gather_on R node q
    (lawful_cut _ (number_of c.args.scope.now.within) lawful) c.body-span.result.from c.body-span.result.to
    c.body-span.ensures start c.min-limit.result next old (record {
      entries = c.append.new.self;
      wanted = new.wanted;
      size = c.saturating_add-gathered.result;
      reached = new.reached;
      portion = c.portion_behind-gathered.result;
    }) c.if-is_full.result
    (found ∙ ap (λ d. take c.min-limit.result (log_of R node c.body-span.result.from
    c.body-span.result.to old.reached d)) c.direction-onward.ensures)
    grown same.1 small same.3 ending so_far)

pub returns-clause-size : goal.returns-clause-size
returns-clause-size g c =
    let old = c.args.gathered.now in
    let next = c.in_ok-next.next.items in
    let new = c.match-last.gathered in
    let all = c.append.new.self.items in
    let same : (new.entries.items ≡ old.entries.items) × (new.size ≡ old.size) =
    elim c.match-last.branch [
      | in-Some w ↦ (ap (λ x. x.entries.items) w.gathered-is, ap (λ x. x.size) w.gathered-is)
      | in_default w ↦ (ap (λ x. x.entries.items) w.gathered-is, ap (λ x. x.size) w.gathered-is)
    ] in
    let grown : all ≡ old.entries.items ++ next =
    c.in_ok-append.ensures.items ∙ ap (λ l. l ++ next) same.0 in
    size_append value_in old.entries.items next old.size c.size_of.result
    c.saturating_add-gathered.result c.requires.size (c.size_of.ensures
    ∙ ap (λ (l : List Entry). saturated (values_length (map value_in l))) c.deref-2.ensures.value)
    (c.saturating_add-gathered.ensures
    ∙ ap (λ n. min (n + c.size_of.result) (2 ^ 64 - 1)) same.1)
    ∙ ap (λ (l : List Entry). saturated (values_length (map value_in l))) (sym grown)
