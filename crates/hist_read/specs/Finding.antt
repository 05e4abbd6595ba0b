-- What a read does to the archive.
use Rattle.std.specs.Prelude.{◌≡◌, ℕ, Option, Some, None, Result, Err, IfOk}
use Rattle.archive.specs.declared.fault.StoreFault.{StoreFault}
use Rattle.archive.specs.declared.setback.StepError.TheVariants as setback
use Rattle.archive.specs.Store.{Store, AfterCall, KeepsContent}
use Rattle.hist_read.specs.declared.fault.PageFault.{PageFault}
use Rattle.hist_read.specs.declared.fault.PageFault.TheVariants as page

-- the fault of the store that was met
abbrev pub fault_met : {X : Type 0} → Result X PageFault → Option StoreFault
fault_met (Err (page.Step (setback.Store fault))) = Some fault
fault_met result = None

-- the archive was asked: the answer is such a one, or what it shows is too long for the limit that
-- there is, or memory was wanting, or a fault of the store came; the content stays
pub record Finds {X : Type 0} (old new : Store) (longest : Option ℕ) (result : Result X PageFault)
    (IsAnswer : X → Type 0) (IsTooLong : ℕ → Type 0) : Type 0 where
  pub answer : new.honest → IfOk result IsAnswer
  pub too_long : result ≡ Err page.TooLong
      → (limit : ℕ) × (longest ≡ Some limit) × (new.honest → IsTooLong limit)
  pub stays : KeepsContent old new
  pub leaves : AfterCall old new (fault_met result)
