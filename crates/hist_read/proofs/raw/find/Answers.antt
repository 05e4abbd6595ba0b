use Rattle.std.proofs.Common.{◌≡◌, ◌∙◌, ℕ, Bool, true, false, [], ◌∷◌, Some, None, Ok, Err, is_some, ap, sym, subst}
use Rattle.std.specs.Prelude.{Result, Vec, Option, if◌then◌else◌}
use Rattle.std.specs.Option.{option_to_list}
use Rattle.std.specs.Global.{Global}
use Rattle.std.proofs.lemmas.Result.{err_from_is_err_and}
use Rattle.stamp.specs.Numbers.{number_of}
use Rattle.records.specs.Contents.{Content, cut}
use Rattle.records.specs.declared.shown.Held.{Held}
use Rattle.hist_read.specs.declared.fault.PageFault.{PageFault}
use Rattle.hist_read.specs.declared.item.Item.{Item}
use Rattle.hist_read.specs.declared.point.Position.{Position}
use Rattle.hist_read.specs.declared.raw.Found.{Found}
use Rattle.hist_read.specs.Reads.{near}
use Rattle.hist_read.specs.Pages.{IsFound, IsFoundBehind}
use Rattle.hist_read.specs.Gathering.{IsBodyTooLong}
use Rattle.hist_read.specs.Finding.{Finds}
use Rattle.hist_read.proofs.Askings.{page_behind, page_made, page_passed}
use Rattle.hist_read.proofs.raw.find.Goals as goal

-- the near bound is due on a first page with bounds
near_due : (o : Option Position) (b : Bool) (x right : Item) → is_some o ≡ false → b ≡ true
    → x ≡ right → option_to_list (Some x)
    ≡ (elim o [ None ↦ if b then right ∷ [] else [] | Some p ↦ [] ])
near_due None true x right first bounds is = ap (λ y. y ∷ []) is
near_due None false x right first bounds is = absurd cc
near_due (Some p) b x right first bounds is = absurd cc

pub returns-in_err-body-2-clause-finds : goal.returns-in_err-body-2-clause-finds
returns-in_err-body-2-clause-finds g c =
    let a = g.A.Archive.state c.args.archive.now in
    let b = g.A.Archive.state c.near.new.archive in
    let d = g.A.Archive.state c.find_values-2.new.archive in
    let v = number_of c.args.scope.now.within in
    let node = c.args.node.now in
    let q = c.args.details.now in
    let p = c.args.position.now in
    let longest = c.args.scope.now.longest in
    let asks = c.in_ok-near.ensures.asks in
    let e = err_from_is_err_and c.from_residual-in_err-body-2.result
    c.from_residual-in_err-body-2.ensures.1 in
    let L : Content → ℕ → Type 0 = λ C. IsBodyTooLong (cut C v) node q p in
    let Any : Vec Held Global × Option Held → Type 0 = λ x. Unit {0} in
    let IsAnswer : Found → Type 0 = IsFound (cut a.content v) node q p in
    let failed : Finds {X = Vec Held Global × Option Held} a d longest
    (Err c.in_err-body-2.field-0.0) Any (L a.content) =
    page_behind a b d asks.leaves asks.stays longest (Err c.in_err-body-2.field-0.0) _ Any _
    (L a.content) c.in_err-body-2.ensures.finds (λ lawful h same y k. tt)
    (λ lawful h same limit long. subst (λ C. L C limit) same long) in
    subst (λ (r : Result Found PageFault). Finds a d longest r IsAnswer (L a.content))
    (sym (e.1 ∙ ap Err e.2))
    (page_passed a d longest c.in_err-body-2.field-0.0 Any IsAnswer (L a.content) (L a.content)
    failed (λ limit lawful long. long))

pub returns-clause-finds : goal.returns-clause-finds
returns-clause-finds g c =
    let a = g.A.Archive.state c.args.archive.now in
    let b = g.A.Archive.state c.near.new.archive in
    let d = g.A.Archive.state c.find_values-2.new.archive in
    let v = number_of c.args.scope.now.within in
    let node = c.args.node.now in
    let q = c.args.details.now in
    let p = c.args.position.now in
    let longest = c.args.scope.now.longest in
    let asks = c.in_ok-near.ensures.asks in
    let L : Content → ℕ → Type 0 = λ C. IsBodyTooLong (cut C v) node q p in
    let Both : Vec Held Global × Option Held → Type 0 = λ x.
    (c.in_ok-near.near ≡ near (cut a.content v) node q)
    × IsFoundBehind (cut a.content v) node q p x in
    let both : Finds a d longest (Ok (c.in_ok-body-2.body, c.in_ok-body-2.far)) Both (L a.content) =
    page_behind a b d asks.leaves asks.stays longest
    (Ok (c.in_ok-body-2.body, c.in_ok-body-2.far)) _ Both _ (L a.content)
    c.in_ok-body-2.ensures.finds
    (λ lawful h same y k.
    (asks.answer h, subst (λ C. IsFoundBehind (cut C v) node q p y) same k))
    (λ lawful h same limit long. subst (λ C. L C limit) same long) in
    page_made a d longest (c.in_ok-body-2.body, c.in_ok-body-2.far)
    (record {
      near = Some c.in_ok-near.near;
      body = c.in_ok-body-2.body;
      far = c.in_ok-body-2.far;
    }) Both (IsFound (cut a.content v) node q p) (L a.content) (L a.content) both (λ lawful is. record {
      near = near_due p q.return_bounds c.in_ok-near.near (near (cut a.content v) node q)
          (sym c.is_some.ensures ∙ c.if-is_some.false) c.if-not-details.false is.0;
      body = is.1.body;
      far = is.1.far;
    })
