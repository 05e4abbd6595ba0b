-- What is given by a part of a request, and when a key or a field stands once.
use Rattle.std.specs.Prelude.{◌≡◌, nat_lt, List, count_by, find, Bool, ⊤, Option, Result, Ok, Err, if◌then◌else◌}
use Rattle.web_request.specs.declared.page.Refusal.{Refusal}
use Rattle.web_request.specs.declared.page.Fault.{Fault}
use Rattle.web_request.specs.declared.page.Fault.TheVariants.{Refused, OutOfMemory}

-- the answer is given, unless memory ran out
abbrev pub Answers : {A : Type 0} → Result A Refusal → Result A Fault → Type 0
Answers answer (Ok value) = answer ≡ Ok value
Answers answer (Err (Refused why)) = answer ≡ Err why
Answers answer (Err OutOfMemory) = ⊤

-- what passes a test, if anything does; it is refused where two do
abbrev pub only : {A : Type 0} → Refusal → (A → Bool) → List A → Result (Option A) Refusal
only why passes all = if nat_lt 1 (count_by passes all) then Err why else Ok (find passes all)
