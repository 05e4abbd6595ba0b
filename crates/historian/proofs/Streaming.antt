-- Responses whose items are written as they are answered, until they are too large to be sent.
use Rattle.std.proofs.Common.{◌≡◌, ◌∙◌, ◌⊎◌, inl, inr, ◌+◌, ◌<◌, ◌≤◌, ◌∷◌, ◌++◌, [], ℕ, List, length, pos, negsuc, arith, Ok, Err, refl, sym, ap, subst, append_assoc, append-nil}
use Rattle.std.specs.Prelude.{Result, OnOk, IfOk, IfErr}
use Rattle.std.specs.Int.{w32}
use Rattle.std.specs.Result.{result_and}
use Rattle.std.specs.List.{AllByRecursion, flat_map}
use Rattle.std.proofs.lemmas.List.{length-append}
use Rattle.std.proofs.lemmas.Grind.{flat_map-append}
use Rattle.ua_binary.specs.Binary.{signed}
use Rattle.ua_binary.specs.Format.{Format, Puts}
use Rattle.ua_binary.specs.declared.fault.BinaryFault.{BinaryFault}
use Rattle.ua_binary.specs.declared.fault.BinaryFault.TheVariants.{OutOfMemory}
use Rattle.ua_binary.specs.Fault.{binary_fault_status}
use Rattle.ua_binary.specs.declared.codes.Status.{Status}
use Rattle.ua_binary.specs.declared.codes.TheConstants.Status.{BAD_OUT_OF_MEMORY}
use Rattle.ua_binary.specs.declared.values.Ticks.{Ticks}
use Rattle.records.specs.Contents.{Content}
use Rattle.archive.specs.Store.{Store, StepResult}
use Rattle.archive.specs.Steps.{Fallible, Refines, give, each}
use Rattle.historian.specs.Answers.{Answer, Response, IsTooLarge, longest_response}
use Rattle.historian.specs.Reading.{Served, answer_items}
use Rattle.historian.specs.Telling.{Appends, AppendsAll, AppendsOne, ComesWritten, IsCutShort, IsLeftOut, Written}
use Rattle.historian.proofs.Items.{acts-refused, acts-wanting, acts-items}

abbrev pub Put : Type 0
Put = Result (Unit {0}) BinaryFault

-- ---- lists

all_more : {Y : Type 0} (P : Y → Type 0) (values : List Y) (value : Y) → AllByRecursion P values
    → P value → AllByRecursion P (values ++ (value ∷ []))
all_more P [] value all is = (is, tt)
all_more P (v ∷ vs) value all is = (all.0, all_more P vs value all.1 is)

flat_more : {Y : Type 0} (spelling : Y → List ℕ) (old : List ℕ) (values : List Y) (value : Y)
    → (old ++ flat_map spelling values) ++ spelling value
    ≡ old ++ flat_map spelling (values ++ (value ∷ []))
flat_more spelling old values value =
    append_assoc old (flat_map spelling values) (spelling value)
    ∙ ap (λ l. old ++ l) (sym
    (flat_map-append spelling values (value ∷ [])
    ∙ ap (λ l. flat_map spelling values ++ l) (append-nil (spelling value))))

-- they have at least as many bytes as those before the last, and at least as many as the last
more-before : {Y : Type 0} (spelling : Y → List ℕ) (old : List ℕ) (values : List Y) (value : Y)
    → length (old ++ flat_map spelling values)
    ≤ length (old ++ flat_map spelling (values ++ (value ∷ [])))
more-before spelling old values value =
    let both = ap length (flat_more spelling old values value) in
    let sum = length-append (old ++ flat_map spelling values) (spelling value) in
    omega (arith, both, sum)

more-last : {Y : Type 0} (spelling : Y → List ℕ) (old : List ℕ) (values : List Y) (value : Y)
    → length (spelling value) ≤ length (old ++ flat_map spelling (values ++ (value ∷ [])))
more-last spelling old values value =
    let both = ap length (flat_more spelling old values value) in
    let sum = length-append (old ++ flat_map spelling values) (spelling value) in
    omega (arith, both, sum)

-- one of them, where there is one
pub some_of : {X : Type 0} (xs : List X) (i : ℕ) → i < length xs → X
some_of [] i within = absurd (omega (arith, within))
some_of (x ∷ xs) i within = x

-- ---- one item more

-- it is written behind the others
pub puts-more : {E Y : Type 0} (format : Format E Y) (put one : Put) (old now new : List ℕ)
    (values : List Y) (value : Y) → length now ≤ longest_response → OnOk put (Appends format values old now)
    → Puts OutOfMemory one now new (format.canon value) → IfOk one (λ _. format.Fits value)
    → OnOk (result_and put one) (Appends format (values ++ (value ∷ [])) old new)
puts-more format (Ok _) (Ok _) old now new values value few (inl before) puts fits = inl (
  puts
      ∙ (ap (λ l. l ++ format.canon value) before.0 ∙ flat_more format.canon old values value),
  all_more format.Fits values value before.1 fits,
)
puts-more format (Ok _) (Ok _) old now new values value few (inr cut) puts fits =
    absurd (omega (arith, few, cut.0))
puts-more format (Ok _) (Err fault) old now new values value few before puts fits = tt
puts-more format (Err fault) one old now new values value few before puts fits = tt

-- the first fault is told, and each is the same
pub still-starved : (put one : Put) (now new bytes : List ℕ)
    → IfErr put (λ fault. fault ≡ OutOfMemory)
    → Puts OutOfMemory one now new bytes → IfErr (result_and put one) (λ fault. fault ≡ OutOfMemory)
still-starved (Ok _) (Ok _) now new bytes before puts = tt
still-starved (Ok _) (Err fault) now new bytes before puts = puts.0
still-starved (Err fault) one now new bytes before puts = before

-- what they are left out for holds of more, too
left-out-more : {E Y : Type 0} (format : Format E Y) (old : List ℕ) (values : List Y) (value : Y)
    (status : Status) → IsLeftOut (old ++ flat_map format.canon values) status
    → IsLeftOut (old ++ flat_map format.canon (values ++ (value ∷ []))) status
left-out-more format old values value status (inl memory) = inl memory
left-out-more format old values value status (inr large) =
    let longer = more-before format.canon old values value in
    inr (large.0, omega (arith, large.1, longer))

-- too many bytes stand there, so it isn't written
pub skips-more : {E Y : Type 0} (format : Format E Y) (old now : List ℕ) (values : List Y)
    (value : Y) → longest_response < length now → Appends format values old now
    → Appends format (values ++ (value ∷ [])) old now
skips-more format old now values value many before = inr (many, by before)
  where
    longer : length (old ++ flat_map format.canon values)
        ≤ length (old ++ flat_map format.canon (values ++ (value ∷ [])))
    longer = more-before format.canon old values value

    by : Appends format values old now
        → length now ≤ length (old ++ flat_map format.canon (values ++ (value ∷ [])))
    by (inl whole) = let same = ap length whole.0 in omega (arith, same, longer)
    by (inr cut) = omega (arith, cut.1, longer)

pub skips : {E Y : Type 0} (format : Format E Y) (put : Put) (old now : List ℕ) (values : List Y)
    (value : Y) → longest_response < length now → OnOk put (Appends format values old now)
    → OnOk put (Appends format (values ++ (value ∷ [])) old now)
skips format (Ok _) old now values value many before =
    skips-more format old now values value many before
skips format (Err fault) old now values value many before = tt

-- the last fault is told, or that all were written
pub appends-more : {E Y : Type 0} (format : Format E Y) (put one : Result (Unit {0}) Status)
    (old now new : List ℕ) (values : List Y) (value : Y) → length now ≤ longest_response
    → AppendsAll format values put old now → AppendsOne format value one now new
    → AppendsAll format (values ++ (value ∷ [])) (result_and one put) old new
appends-more format (Ok _) (Ok _) old now new values value few before is =
    puts-more format (Ok tt) (Ok tt) old now new values value few before is.0 is.1
appends-more format (Err status) (Ok _) old now new values value few before is =
    left-out-more format old values value status before
appends-more format put (Err status) old now new values value few before is = by is.1
  where
    by : IsLeftOut (format.canon value) status
        → IsLeftOut (old ++ flat_map format.canon (values ++ (value ∷ []))) status
    by (inl memory) = inl memory
    by (inr large) =
        let longer = more-last format.canon old values value in
        inr (large.0, omega (arith, large.1, longer))

-- one isn't read, since too many bytes stand there, or one before has too many
pub appends-skips : {E Y : Type 0} (format : Format E Y) (put : Result (Unit {0}) Status)
    (old now : List ℕ) (values : List Y) (value : Y) → OnOk put (longest_response < length now)
    → AppendsAll format values put old now → AppendsAll format (values ++ (value ∷ [])) put old now
appends-skips format (Ok _) old now values value many before =
    skips-more format old now values value many before
appends-skips format (Err status) old now values value many before =
    left-out-more format old values value status before

-- ---- all items

-- not too many bytes stand there, so they are those of all items
pub is-whole : {E Y : Type 0} (format : Format E Y) (values : List Y) (old now : List ℕ)
    → length now ≤ longest_response → Appends format values old now
    → (now ≡ old ++ flat_map format.canon values) × AllByRecursion format.Fits values
is-whole format values old now few (inl whole) = whole
is-whole format values old now few (inr cut) = absurd (omega (arith, few, cut.0))

-- a response with a head, a count, these items and no diagnostics
abbrev pub bytes_of : {E Y : Type 0} → Format E Y → List ℕ → List Y → List ℕ
bytes_of format head values =
    head ++ (((signed w32).canon (pos (length values)) ++ flat_map format.canon values)
    ++ (signed w32).canon (negsuc 0))

same-bytes : {E Y : Type 0} (format : Format E Y) (head : List ℕ) (values : List Y) (count : ℕ)
    (first headed counted : List ℕ) → first ≡ [] → headed ≡ first ++ head
    → counted ≡ headed ++ (signed w32).canon (pos count) → length values ≡ count
    → (counted ++ flat_map format.canon values) ++ (signed w32).canon (negsuc 0)
    ≡ bytes_of format head values
same-bytes format head values count first headed counted empty h n same =
    let F = flat_map format.canon values in
    let C = (signed w32).canon (pos (length values)) in
    let N = (signed w32).canon (negsuc 0) in
    let counts : (signed w32).canon (pos count) ≡ C =
    ap (λ n. (signed w32).canon (pos n)) (sym same) in
    ap (λ l. (l ++ F) ++ N) (n
    ∙ (ap (λ l. l ++ (signed w32).canon (pos count)) (h ∙ ap (λ l. l ++ head) empty)
    ∙ ap (λ l. head ++ l) counts))
    ∙ (ap (λ l. l ++ N) (append_assoc head C F) ∙ append_assoc head (C ++ F) N)

-- all of it was written
pub writes-all : {E Y : Type 0} (format : Format E Y) (head : List ℕ) (values : List Y) (count : ℕ)
    (first headed counted valued ended : List ℕ) → first ≡ [] → headed ≡ first ++ head
    → counted ≡ headed ++ (signed w32).canon (pos count)
    → valued ≡ counted ++ flat_map format.canon values
    → ended ≡ valued ++ (signed w32).canon (negsuc 0) → length values ≡ count
    → ended ≡ bytes_of format head values
writes-all format head values count first headed counted valued ended empty h n v e same =
    e ∙ (ap (λ l. l ++ (signed w32).canon (negsuc 0)) v
    ∙ same-bytes format head values count first headed counted empty h n same)

-- its items are too many bytes, so it is too large to be sent
pub is-over : {E Y : Type 0} (format : Format E Y) (head : List ℕ) (values : List Y) (count : ℕ)
    (first headed counted : List ℕ) → first ≡ [] → headed ≡ first ++ head
    → counted ≡ headed ++ (signed w32).canon (pos count) → length values ≡ count
    → longest_response < length (counted ++ flat_map format.canon values)
    → longest_response < length (bytes_of format head values)
is-over format head values count first headed counted empty h n same many =
    let whole = counted ++ flat_map format.canon values in
    let sum = length-append whole ((signed w32).canon (negsuc 0)) in
    let all = ap length
    (same-bytes format head values count first headed counted empty h n same) in
    omega (arith, many, sum, all)

-- so many of them were written that it is
pub is-too-large : {E Y : Type 0} (format : Format E Y) (head : List ℕ) (values : List Y) (count : ℕ)
    (first headed counted now : List ℕ) → first ≡ [] → headed ≡ first ++ head
    → counted ≡ headed ++ (signed w32).canon (pos count) → length values ≡ count
    → longest_response < length now → Appends format values counted now
    → longest_response < length (bytes_of format head values)
is-too-large format head values count first headed counted now empty h n same many written =
    let front = by written in
    is-over format head values count first headed counted empty h n same (omega (arith, many, front))
  where
    by : Appends format values counted now
        → length now ≤ length (counted ++ flat_map format.canon values)
    by (inl whole) = let same = ap length whole.0 in omega (arith, same)
    by (inr cut) = cut.1

-- memory for the bytes was wanting, or they are too many
pub left-out : (now : Ticks) (handle : ℕ) (told : Response) (result : Result (Unit {0}) Status)
    (status fault : Status) (bytes whole : List ℕ) → result ≡ Err status → status ≡ fault
    → IsLeftOut whole fault → (longest_response < length whole → IsTooLarge now handle told)
    → Written now handle told result bytes
left-out now handle told result status fault bytes whole is from why over =
    subst (λ (r : Result (Unit {0}) Status). Written now handle told r bytes) (sym is) (by why)
  where
    by : IsLeftOut whole fault → Written now handle told (Err status) bytes
    by (inl memory) = inr (inl (from ∙ memory))
    by (inr large) = inr (inr (from ∙ large.0, over large.1))

-- memory for the bytes was wanting
pub starved : (now : Ticks) (handle : ℕ) (told : Response) (result : Result (Unit {0}) Status)
    (status : Status) (fault : BinaryFault) (bytes : List ℕ) → result ≡ Err status
    → status ≡ binary_fault_status fault → fault ≡ OutOfMemory
    → Written now handle told result bytes
starved now handle told result status fault bytes is from memory =
    subst (λ (r : Result (Unit {0}) Status). Written now handle told r bytes) (sym is)
    (inr (inl (from ∙ ap binary_fault_status memory)))

-- ---- services that answer items

-- one is refused as a whole
pub written-refused : (s : Store) (service : Content → Served) (status : Status) (now : Ticks)
    (handle : ℕ) (bytes : List ℕ) → ((R : Content) (marks : List StepResult)
    → service R marks ≡ give (Err status, R) marks)
    → ComesWritten s s service now handle (Err status) bytes
written-refused s service status now handle bytes refuses =
    let acts = acts-refused s service status refuses in
    (acts.0, Err status, acts.1, inl refl)

-- memory is wanting before the first item
pub written-wanting : {X Y : Type 0} (s : Store) (service : Content → Served)
    (answer : List Y → Answer) (item : X → Content → Fallible (Y × Content)) (xs : List X)
    (now : Ticks) (handle : ℕ) (result : Result (Unit {0}) Status) (status : Status)
    (fault : BinaryFault) (bytes : List ℕ) → ((R : Content) (marks : List StepResult)
    → service R marks ≡ answer_items answer item xs R marks) → result ≡ Err status
    → status ≡ binary_fault_status fault → fault ≡ OutOfMemory
    → ComesWritten s s service now handle result bytes
written-wanting s service answer item xs now handle result status fault bytes asks is from memory =
    let acts = acts-wanting s service answer item xs asks in (
      acts.0,
      Err BAD_OUT_OF_MEMORY,
      acts.1,
      starved now handle (Err BAD_OUT_OF_MEMORY) result status fault bytes is from memory,
    )

-- all items were answered
pub written-items : {X Y : Type 0} (a b : Store) (service : Content → Served)
    (answer : List Y → Answer) (item : X → Content → Fallible (Y × Content)) (xs : List X)
    (ys : List Y) (now : Ticks) (handle : ℕ) (result : Result (Unit {0}) Status) (bytes : List ℕ)
    → ((R : Content) (marks : List StepResult)
    → service R marks ≡ answer_items answer item xs R marks)
    → ((used : List StepResult) × Refines a b used (each item xs) ys)
    → Written now handle (Ok (answer ys)) result bytes
    → ComesWritten a b service now handle result bytes
written-items a b service answer item xs ys now handle result bytes asks all tells =
    let acts = acts-items a b service answer item xs ys asks all in
    (acts.0, Ok (answer ys), acts.1, tells)
