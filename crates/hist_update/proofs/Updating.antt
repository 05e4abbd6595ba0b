-- Operations over an archive, one after the other.
use Rattle.std.proofs.Common.{◌≡◌, ◌||◌, ◌+◌, ◌<◌, ℕ, suc, Bool, true, false, if◌then◌else◌, is_ok, List, [], ◌∷◌, ◌++◌, map, take, length, Result, Ok, Err, IsErr, refl, sym, ap, ◌∙◌, subst, get_or, arith}
use Rattle.std.proofs.lemmas.List.{take_more, map-append, length-append}
use Rattle.std.specs.List.{list_any}
use Rattle.std.proofs.Math.Bool.{or-false}
use Rattle.std.proofs.lemmas.Bool.{true≢false}
use Rattle.ua_binary.specs.declared.codes.Status.{Status}
use Rattle.archive.specs.declared.fault.StoreFault.{StoreFault}
use Rattle.archive.specs.Steps.{Refines, Yields}
use Rattle.archive.specs.Store.{Store, StepResult, Done, is_break, breaks, faults_in, faults_of}
use Rattle.archive.proofs.Acting.{moves-none, acts-each}
use Rattle.hist_update.specs.declared.request.Request.{Request}
use Rattle.hist_update.specs.declared.operate.OperationError.{OperationError}
use Rattle.hist_update.specs.Outcome.{Operation, Change, change_by}
use Rattle.hist_update.specs.Updates.{update_one, update_all, AreEnded, needs_store}
use Rattle.hist_update.specs.Operating.{code_told, mark_in, Operates, Operations}

-- ---- behind a break

any-or : (x : Bool) (faults more : List StoreFault)
    → (x || list_any is_break (faults ++ more))
    ≡ ((x || list_any is_break faults) || list_any is_break more)
any-or true faults more = refl
any-or false [] more = refl
any-or false (f ∷ faults) more = any-or (is_break f) faults more

-- one step more
ended-then : (broken : Bool) (steps : List Bool) (used : List StepResult) (needs : Bool)
    (mark : StepResult) → length used ≡ length steps
    → AreEnded broken steps used → ((broken || list_any is_break (faults_of used)) ≡ true
    → mark ≡ Done → needs ≡ false) → AreEnded broken (steps ++ (needs ∷ [])) (used ++ (mark ∷ []))
ended-then broken [] [] needs mark same h last = (λ e f. last (or-false broken ∙ e) f, tt)
ended-then broken [] (m ∷ used) needs mark same h last = absurd (omega (arith, same))
ended-then broken (s ∷ steps) [] needs mark same h last = absurd (omega (arith, same))
ended-then broken (s ∷ steps) (m ∷ used) needs mark same h last = (
  h.0,
  ended-then (broken || breaks m) steps used needs mark (omega (arith, same)) h.1
      (λ e f. last (any-or broken (faults_in m) (faults_of used) ∙ e) f),
)

-- what is refused by what it says itself needs no store
not_needed : (own : ℕ) (request : Request) (op : Operation) → IsErr (change_by request own op)
    → needs_store own request op ≡ false
not_needed own request op h = go (change_by request own op) h
  where
    go : (x : Result Change Status) → IsErr x → is_ok x ≡ false
    go (Err code) e = refl
    go (Ok change) e = absurd (true≢false (sym e))

-- ---- one operation more

pub operations-none : (a : Store) (request : Request) → Operations a a request [] []
operations-none a request = record {
  used = [];
  acts = moves-none a (λ marks R S. Yields (update_all a.own request [] R) marks ([], S))
      (λ R. record { does = λ later. refl });
  ended = tt;
  marks = refl;
  count = refl;
}

pub operations-more : (a b c : Store) (request : Request) (ops : List Operation)
    (told : List Status) (op : Operation) (result : Result Status OperationError)
    → Operations a b request ops told → Operates b c request op result
    → Operations a c request (ops ++ (op ∷ [])) (told ++ (code_told result ∷ []))
operations-more a b c request ops told op result u o =
    let mark = mark_in result in
    let own : b.own ≡ a.own = u.acts.passes.own in
    let one : Refines b c (mark_in result ∷ []) (update_one a.own request op) (code_told result) =
    subst (λ n. Refines b c (mark_in result ∷ []) (update_one n request op) (code_told result))
    own o.acts in
    record {
      used = u.used ++ (mark ∷ []);
      acts = acts-each a b c u.used (mark ∷ []) (update_one a.own request) ops op told
          (code_told result) u.acts one;
      ended = subst (λ (needs : List Bool).
          AreEnded a.broken needs (u.used ++ (mark_in result ∷ [])))
          (sym (map-append (needs_store a.own request) ops (op ∷ [])))
          (ended-then a.broken (map (needs_store a.own request) ops) u.used
          (needs_store a.own request op) mark (u.marks ∙ sym (mapped ops)) u.ended
          (λ e f. not_needed a.own request op (subst (λ n. IsErr (change_by request n op)) own
          (o.ended (u.acts.passes.broken ∙ e) f))));
      marks = omega (
        arith,
        length-append u.used (mark_in result ∷ []),
        length-append ops (op ∷ []),
        u.marks,
      );
      count = omega (
        arith,
        length-append told (code_told result ∷ []),
        length-append ops (op ∷ []),
        u.count,
      );
    }
  where
    mapped : (xs : List Operation) → length (map (needs_store a.own request) xs) ≡ length xs
    mapped [] = refl
    mapped (x ∷ xs) = ap (λ n. suc n) (mapped xs)

-- the next of a list
pub operations-next : {X : Type 0} (a b c : Store) (request : Request) (f : X → Operation)
    (xs : List X) (i : ℕ) (other x : X) (result : Result Status OperationError)
    (told more : List Status) (code : Status)
    → Operations a b request (map f (take i xs)) told → Operates b c request (f x) result
    → i < length xs → x ≡ get_or xs i other → code ≡ code_told result → more ≡ told ++ (code ∷ [])
    → Operations a c request (map f (take (i + 1) xs)) more
operations-next a b c request f xs i other x result told more code u o within is same grown =
    subst (λ ops. Operations a c request ops more) (sym ops)
    (subst (λ cs. Operations a c request (map f (take i xs) ++ (f x ∷ [])) cs)
    (sym (grown ∙ ap (λ y. told ++ (y ∷ [])) same))
    (operations-more a b c request (map f (take i xs)) told (f x) result u o))
  where
    ops : map f (take (i + 1) xs) ≡ map f (take i xs) ++ (f x ∷ [])
    ops = ap (map f) (take_more xs i other within)
        ∙ (map-append f (take i xs) (get_or xs i other ∷ [])
        ∙ ap (λ y. map f (take i xs) ++ (f y ∷ [])) (sym is))

-- what a push leaves that went well
pub pushed : {E X : Type 0} (result : Result (Unit {0}) E) (u : Unit {0}) (longer same new : X)
    → new ≡ (if is_ok result then longer else same) → result ≡ Ok u → new ≡ longer
pushed result u longer same new grown ok = grown ∙ ap (λ r. if is_ok r then longer else same) ok
