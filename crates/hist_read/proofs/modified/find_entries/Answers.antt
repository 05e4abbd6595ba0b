use Rattle.std.proofs.Common.{◌≡◌, ◌+◌, ℕ, Bool, Ok, Err, take, sym, ap, subst, arith, ◌∙◌}
use Rattle.std.specs.Prelude.{Result, Vec}
use Rattle.std.proofs.lemmas.Result.{err_from_is_err_and}
use Rattle.stamp.specs.Numbers.{number_of}
use Rattle.records.specs.Contents.{Content, cut}
use Rattle.records.specs.declared.shown.Entry.{Entry}
use Rattle.hist_read.specs.Reads.{place_at, entries_behind, modified, page_size}
use Rattle.hist_read.specs.Gathering.{value_in, AreGathered, EntriesGatherOn, AreTooLong, AreModifiedTooLong}
use Rattle.hist_read.specs.declared.fault.PageFault.{PageFault}
use Rattle.hist_read.specs.Finding.{Finds}
use Rattle.hist_read.proofs.Askings.{page_passed, page_made, page_so, page_behind}
use Rattle.hist_read.proofs.Gathering.{entries_none, fewer}
use Rattle.hist_read.proofs.modified.find_entries.Goals as goal

pub returns-in_err-more-clause-finds : goal.returns-in_err-more-clause-finds
returns-in_err-more-clause-finds g c =
    let a = g.A.Archive.state c.args.archive.now in
    let b = g.A.Archive.state c.gather.new.archive in
    let R = cut a.content (number_of c.args.scope.now.within) in
    let node = c.args.node.now in
    let q = c.args.details.now in
    let p = c.args.position.now in
    let start = place_at p in
    let longest = c.args.scope.now.longest in
    let none = entries_none R node q start (record {
      entries = c.new.result;
      wanted = c.page_size.result + 1;
      size = 0;
      reached = c.place_at.result;
      portion = 32;
    }) c.new.ensures.items c.place_at.ensures in
    let e = err_from_is_err_and c.from_residual.result c.from_residual.ensures.1 in
    let IsAnswer : Vec Entry _ → Type 0 = λ v. v.items ≡ take (page_size q p + 1) (modified R node q p) in
    subst (λ (r : Result (Vec Entry _) PageFault). Finds a b longest r IsAnswer (AreModifiedTooLong R node q p))
    (sym (e.1 ∙ ap Err e.2))
    (page_passed a b longest c.in_err-more.field-0.0 _ IsAnswer _ (AreModifiedTooLong R node q p)
    (c.in_err-more.ensures.finds start) (λ limit lawful long. subst (λ n. AreTooLong value_in n (modified R node q p) limit)
    (ap (λ n. n + 1) c.page_size.ensures.value) (long none)))

pub loop-more-init : goal.loop-more-init
loop-more-init g c =
    let a = g.A.Archive.state c.args.archive.now in
    let b = g.A.Archive.state c.gather.new.archive in
    let R = cut a.content (number_of c.args.scope.now.within) in
    let node = c.args.node.now in
    let q = c.args.details.now in
    let p = c.args.position.now in
    let start = place_at p in
    let none = entries_none R node q start (record {
      entries = c.new.result;
      wanted = c.page_size.result + 1;
      size = 0;
      reached = c.place_at.result;
      portion = 32;
    }) c.new.ensures.items c.place_at.ensures in
    let most = c.in_ok-more.ensures.wanted in
    record {
      finds = page_so a b c.args.scope.now.longest (Ok c.in_ok-more.more) _ _ _ _
          (c.in_ok-more.ensures.finds start) (λ x lawful on. on none)
          (λ limit lawful long. subst (λ n. AreTooLong value_in (n) (entries_behind R node q start) limit)
          (sym most) (long none));
      asked = omega (arith, c.in_ok-more.ensures.asked, most);
      size = c.in_ok-more.ensures.size;
      portion = c.in_ok-more.ensures.portion;
      wanted = most ∙ ap (λ n. n + 1) c.page_size.ensures.value;
    }

pub returns-in_err-more-2-clause-finds : goal.returns-in_err-more-2-clause-finds
returns-in_err-more-2-clause-finds g c =
    let a = g.A.Archive.state c.args.archive.now in
    let b = g.A.Archive.state c.loop-more.archive in
    let d = g.A.Archive.state c.gather-in-loop-more.new.archive in
    let v = number_of c.args.scope.now.within in
    let R = cut a.content v in
    let node = c.args.node.now in
    let q = c.args.details.now in
    let p = c.args.position.now in
    let start = place_at p in
    let longest = c.args.scope.now.longest in
    let old = c.loop-more.gathered in
    let inv = c.loop-more.invariant in
    let e = err_from_is_err_and c.from_residual-in_err-more-2.result
    c.from_residual-in_err-more-2.ensures.1 in
    let IsAnswer : Vec Entry _ → Type 0 = λ v. v.items ≡ take (page_size q p + 1) (modified R node q p) in
    let P : Content → Type 0 = λ C. AreGathered (cut C v) node q start old in
    let L : Content → ℕ → Type 0 = λ C limit.
    AreTooLong value_in (old.wanted) (entries_behind (cut C v) node q start) limit in
    let Any : Bool → Type 0 = λ more. Unit {0} in
    let failed : Finds {X = Bool} a d longest (Err c.in_err-more-2.field-0.0) Any (L a.content) =
    page_behind a b d inv.finds.leaves inv.finds.stays longest (Err c.in_err-more-2.field-0.0) _
    Any _ (L a.content) (c.in_err-more-2.ensures.finds start) (λ lawful h same y k. tt)
    (λ lawful h same limit long. subst (λ C. L C limit) same
    (long (subst P (sym same) (inv.finds.answer h).0))) in
    subst (λ (r : Result (Vec Entry _) PageFault). Finds a d longest r IsAnswer (AreModifiedTooLong R node q p))
    (sym (e.1 ∙ ap Err e.2))
    (page_passed a d longest c.in_err-more-2.field-0.0 Any IsAnswer (L a.content) (AreModifiedTooLong R node q p)
    failed (λ limit lawful long. subst (λ n. AreTooLong value_in n (modified R node q p) limit)
    inv.wanted long))

pub loop-more-smaller : goal.loop-more-smaller
loop-more-smaller g c = fewer c.loop-more.more c.in_ok-more-2.more _ _ _ _ c.loop-more-test.true
    c.in_ok-more-2.ensures.wanted c.in_ok-more-2.ensures.grows

pub loop-more-preserved : goal.loop-more-preserved
loop-more-preserved g c =
    let a = g.A.Archive.state c.args.archive.now in
    let b = g.A.Archive.state c.loop-more.archive in
    let d = g.A.Archive.state c.gather-in-loop-more.new.archive in
    let v = number_of c.args.scope.now.within in
    let node = c.args.node.now in
    let q = c.args.details.now in
    let p = c.args.position.now in
    let start = place_at p in
    let longest = c.args.scope.now.longest in
    let old = c.loop-more.gathered in
    let new = c.gather-in-loop-more.new.gathered in
    let inv = c.loop-more.invariant in
    let most = c.in_ok-more-2.ensures.wanted in
    let P : Content → Type 0 = λ C. AreGathered (cut C v) node q start old in
    let Q : Content → Bool → Type 0 = λ C more. EntriesGatherOn (cut C v) node q start more new in
    let L : Content → ℕ → ℕ → Type 0 = λ C n limit.
    AreTooLong value_in (n) (entries_behind (cut C v) node q start) limit in
    record {
      finds = page_behind a b d inv.finds.leaves inv.finds.stays longest (Ok c.in_ok-more-2.more) _
          (Q a.content) _ (L a.content new.wanted) (c.in_ok-more-2.ensures.finds start)
          (λ lawful h same y on. subst (λ C. Q C y) same
          (on (subst P (sym same) (inv.finds.answer h).0)))
          (λ lawful h same limit long. subst (λ C. L C new.wanted limit) same
          (subst (λ n. L b.content n limit) (sym most)
          (long (subst P (sym same) (inv.finds.answer h).0))));
      asked = omega (arith, c.in_ok-more-2.ensures.asked, inv.asked, most);
      size = c.in_ok-more-2.ensures.size;
      portion = c.in_ok-more-2.ensures.portion;
      wanted = most ∙ inv.wanted;
    }

pub returns-clause-finds : goal.returns-clause-finds
returns-clause-finds g c =
    let a = g.A.Archive.state c.args.archive.now in
    let R = cut a.content (number_of c.args.scope.now.within) in
    let node = c.args.node.now in
    let q = c.args.details.now in
    let p = c.args.position.now in
    let inv = c.loop-more.invariant in
    page_made a _ c.args.scope.now.longest c.loop-more.more c.loop-more.gathered.entries _ _ _ _
    inv.finds (λ lawful on. on.1 c.loop-more-test.false
    ∙ ap (λ n. take n (modified R node q p)) inv.wanted)
