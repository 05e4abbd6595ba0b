use Rattle.std.proofs.Common.{◌≡◌, ◌∙◌, ◌<◌, ◌≤◌, inr, ℕ, List, map, length, arith, Ok, Err, None, refl, sym, ap, subst}
use Rattle.std.specs.Prelude.{Option, IfOk}
use Rattle.std.specs.Option.{option_map_or}
use Rattle.std.specs.List.{AllByRecursion}
use Rattle.std.proofs.lemmas.List.{length-map}
use Rattle.ua_binary.specs.Binary.{array}
use Rattle.ua_binary.specs.declared.codes.Status.{Status}
use Rattle.ua_binary.specs.declared.codes.TheConstants.Status.{GOOD}
use Rattle.ua_binary.specs.declared.values.Ticks.{Ticks}
use Rattle.ua_services.specs.Browsing.{BrowseFields, browse_fields, browsed_fields, browse_result, browse_response}
use Rattle.ua_services.specs.declared.browsing.BrowseDescription.{BrowseDescription}
use Rattle.ua_services.specs.declared.browsing.BrowseResult.{BrowseResult}
use Rattle.ua_space.specs.declared.layout.Layout.{Layout}
use Rattle.hist_update.specs.Codes.{list_refusal}
use Rattle.historian.specs.Answers.{Response, Browsed, HasEncoding, IsTooLarge, head, response, longest_response}
use Rattle.historian.specs.Browsing.{browse_node, browse}
use Rattle.historian.specs.Telling.{Appends}
use Rattle.historian.proofs.Items.{few_taken}
use Rattle.historian.proofs.Streaming.{bytes_of, is-whole, is-too-large, writes-all}
use Rattle.historian.proofs.browsing.put_browse.Goals as goal

-- a Browse that isn't refused tells of each node
tells : (space : Layout) (nodes : List BrowseFields) → list_refusal 1000 (length nodes) ≡ None
    → browse space nodes ≡ Ok (Browsed (map (browse_node space) nodes))
tells space nodes taken =
    ap (λ (o : Option Status). option_map_or (λ status. Err status) o
    (Ok (Browsed (map (browse_node space) nodes)))) taken

-- so many are told of
told_count : (space : Layout) (nodes : List BrowseDescription)
    → length (map browsed_fields (map (browse_node space) (map browse_fields nodes)))
    ≡ length nodes
told_count space nodes =
    length-map (map (browse_node space) (map browse_fields nodes)) browsed_fields
    ∙ (length-map (map browse_fields nodes) (browse_node space)
    ∙ length-map nodes browse_fields)

-- the bytes of the response
same : (now : Ticks) (handle : ℕ) (results : List BrowseResult)
    → bytes_of browse_result (head 530 now handle GOOD) (map browsed_fields results)
    ≡ response now handle (Ok (Browsed results))
unfolding browse_response array
same now handle results = refl

-- they are few, so there is a spelling of all
few_spelled : (results : List BrowseResult) → length results ≤ 1000
    → AllByRecursion browse_result.Fits (map browsed_fields results)
    → browse_response.Fits (map browsed_fields results)
unfolding browse_response
few_spelled results few spelled =
    (omega (arith, few, length-map results browsed_fields), spelled)

pub returns-then-len-gt-LONGEST_RESPONSE : goal.returns-then-len-gt-LONGEST_RESPONSE
returns-then-len-gt-LONGEST_RESPONSE g c =
    let now = c.args.context.now in
    let handle = c.args.context.handle in
    let space = c.args.server.now.settings.space in
    let nodes = c.args.nodes.now in
    let results = map (browse_node space) (map browse_fields nodes) in
    let taken : list_refusal 1000 (length (map browse_fields nodes)) ≡ None =
    ap (list_refusal 1000) (length-map nodes browse_fields)
    ∙ sym c.list_refusal.ensures ∙ c.in_default.is in
    let P : Layout → Type 0 = λ s. Appends browse_result
    (map browsed_fields (map (browse_node s) (map browse_fields nodes)))
    c.put_count.new.out.items c.put_browsed.new.out.items in
    let many : longest_response < length c.put_browsed.new.out.items = omega (
      arith,
      c.if-len-gt-LONGEST_RESPONSE.true,
      c.len.ensures,
      c.put_browsed.new.out.ok,
    ) in
    let large : IsTooLarge now handle (Ok (Browsed results)) =
    subst (λ (bytes : List ℕ). longest_response < length bytes) (same now handle results)
    (is-too-large browse_result (head 530 now handle GOOD) (map browsed_fields results)
    (length nodes) c.args.body.now.items c.put_head.new.out.items c.put_count.new.out.items
    c.put_browsed.new.out.items c.requires c.in_ok-put_head.ensures.ok
    c.in_ok-put_count.ensures (told_count space nodes) many
    (subst P c.space.ensures c.in_ok-put_browsed.ensures.told)) in
    inr (inr (
      refl,
      subst (λ (r : Response). IsTooLarge now handle r)
          (sym (tells space (map browse_fields nodes) taken)) large,
    ))

pub returns : goal.returns
returns g c =
    let now = c.args.context.now in
    let handle = c.args.context.handle in
    let space = c.args.server.now.settings.space in
    let nodes = c.args.nodes.now in
    let results = map (browse_node space) (map browse_fields nodes) in
    let taken : list_refusal 1000 (length (map browse_fields nodes)) ≡ None =
    ap (list_refusal 1000) (length-map nodes browse_fields)
    ∙ sym c.list_refusal.ensures ∙ c.in_default.is in
    let P : Layout → Type 0 = λ s. Appends browse_result
    (map browsed_fields (map (browse_node s) (map browse_fields nodes)))
    c.put_count.new.out.items c.put_browsed.new.out.items in
    let few : length c.put_browsed.new.out.items ≤ longest_response = omega (
      arith,
      c.if-len-gt-LONGEST_RESPONSE.false,
      c.len.ensures,
      c.put_browsed.new.out.ok,
    ) in
    let whole = is-whole browse_result (map browsed_fields results) c.put_count.new.out.items
    c.put_browsed.new.out.items few
    (subst P c.space.ensures c.in_ok-put_browsed.ensures.told) in
    let Q : Response → Type 0 = λ told.
    (c.put_i32.new.out.items ≡ response now handle told) × IfOk told HasEncoding in
    subst Q (sym (tells space (map browse_fields nodes) taken)) (
      writes-all browse_result (head 530 now handle GOOD) (map browsed_fields results)
          (length nodes) c.args.body.now.items c.put_head.new.out.items
          c.put_count.new.out.items c.put_browsed.new.out.items c.put_i32.new.out.items c.requires
          c.in_ok-put_head.ensures.ok c.in_ok-put_count.ensures whole.0 c.in_ok-put_i32.ensures
          (told_count space nodes)
          ∙ same now handle results,
      few_spelled results
          (omega (
            arith,
            few_taken 1000 (length (map browse_fields nodes)) taken,
            length-map (map browse_fields nodes) (browse_node space),
          )) whole.1,
    )
