use Rattle.std.proofs.Common.{◌≡◌, ◌∙◌, ◌+◌, ◌≤◌, ◌<◌, ◌∷◌, ◌++◌, [], ℕ, List, get_or, length, map, take, Ok, refl, sym, ap, subst, append-nil, arith, inl}
use Rattle.std.proofs.lemmas.List.{map-append, take_all, take_more}
use Rattle.ua_binary.specs.declared.codes.Status.{Status}
use Rattle.ua_services.specs.Browsing.{ReferenceFields, browse_fields, browsed_fields, browse_result}
use Rattle.ua_services.specs.declared.browsing.BrowseDescription.{BrowseDescription}
use Rattle.ua_space.specs.declared.layout.Layout.{Layout}
use Rattle.historian.specs.Answers.{longest_response}
use Rattle.historian.specs.Browsing.{browse_node}
use Rattle.historian.specs.Telling.{Appends}
use Rattle.historian.proofs.Streaming.{puts-more, skips-more, some_of}
use Rattle.historian.proofs.browsing.put_browsed.Goals as goal
use Rattle.historian.proofs.browsing.put_browsed.Goals.{then-len-le-LONGEST_RESPONSE+in-Ok+in_ok-put-in-Ok, else-len-le-LONGEST_RESPONSE}

-- what is told of nodes, and of one of them
abbrev told_of : Layout → List BrowseDescription → List (Status × List ReferenceFields)
told_of space nodes = map browsed_fields (map (browse_node space) (map browse_fields nodes))

abbrev told_one : Layout → BrowseDescription → Status × List ReferenceFields
told_one space node = browsed_fields (browse_node space (browse_fields node))

-- of one more
one_more : (space : Layout) (nodes : List BrowseDescription) (i : ℕ) (other x : BrowseDescription)
    → i < length nodes → x ≡ get_or nodes i other
    → told_of space (take i nodes) ++ (told_one space x ∷ []) ≡ told_of space (take (i + 1) nodes)
one_more space nodes i other x within is =
    let front = take i nodes in
    sym (ap (told_of space) (take_more nodes i other within
    ∙ ap (λ z. front ++ (z ∷ [])) (sym is))
    ∙ (ap (λ l. map browsed_fields (map (browse_node space) l))
    (map-append browse_fields front (x ∷ []))
    ∙ (ap (map browsed_fields)
    (map-append (browse_node space) (map browse_fields front) (browse_fields x ∷ []))
    ∙ map-append browsed_fields (map (browse_node space) (map browse_fields front))
    (browse_node space (browse_fields x) ∷ []))))

-- it is written, or would be too much
writes : (space : Layout) (nodes : List BrowseDescription) (i : ℕ) (other x : BrowseDescription)
    (old now new : List ℕ) (value : Status × List ReferenceFields) → i < length nodes
    → x ≡ get_or nodes i other → value ≡ told_one space x → length now ≤ longest_response
    → Appends browse_result (told_of space (take i nodes)) old now
    → new ≡ now ++ browse_result.canon value → browse_result.Fits value
    → Appends browse_result (told_of space (take (i + 1) nodes)) old new
writes space nodes i other x old now new value within is told few before puts fits =
    subst (λ vs. Appends browse_result vs old new)
    (ap (λ v. told_of space (take i nodes) ++ (v ∷ [])) told
    ∙ one_more space nodes i other x within is)
    (puts-more browse_result (Ok tt) (Ok tt) old now new (told_of space (take i nodes)) value few
    before puts fits)

pub loop-description-init : goal.loop-description-init
loop-description-init c = inl (sym (append-nil c.args.out.now.items), tt)

pub loop-description-preserved : goal.loop-description-preserved
loop-description-preserved c =
    let space = c.args.space.now in
    let nodes = c.args.nodes.now in
    let i = c.loop-description.description-index in
    let old = c.args.out.now.items in
    let now = c.loop-description.out.items in
    elim c.if-len-le-LONGEST_RESPONSE.branch [
      | then-len-le-LONGEST_RESPONSE+in-Ok+in_ok-put-in-Ok w ↦
          let few : length now ≤ longest_response = omega (
            arith,
            w.if-len-le-LONGEST_RESPONSE.true,
            c.len.ensures,
            c.loop-description.out.ok,
          ) in
          rw w.out-is (writes space nodes i _ _ old now w.put.new.out.items
          (browsed_fields w.in-Ok.browsed) c.loop-description-test.true refl
          (ap browsed_fields w.in-Ok.ensures.told) few c.loop-description.invariant
          w.in_ok-put-in-Ok.ensures.puts w.in_ok-put-in-Ok.ensures.spelled)
      | else-len-le-LONGEST_RESPONSE w ↦
          let other = some_of nodes i c.loop-description-test.true in
          let x = get_or nodes i other in
          let many : longest_response < length now = omega (
            arith,
            w.if-len-le-LONGEST_RESPONSE.false,
            c.len.ensures,
            c.loop-description.out.ok,
          ) in
          rw w.out-is (subst (λ vs. Appends browse_result vs old now)
          (one_more space nodes i other x c.loop-description-test.true refl)
          (skips-more browse_result old now (told_of space (take i nodes)) (told_one space x) many
          c.loop-description.invariant))
    ]

pub returns-clause-told : goal.returns-clause-told
returns-clause-told c =
    subst (λ (l : List BrowseDescription).
    Appends browse_result (told_of c.args.space.now l) c.args.out.now.items
    c.loop-description.out.items)
    (take_all _ _ c.loop-description-test.false) c.loop-description.invariant
