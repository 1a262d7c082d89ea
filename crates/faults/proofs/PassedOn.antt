-- What a fault that is passed on says.
use Rattle.std.proofs.Common.{◌≡◌, ap, Result, Ok, Err}
use Rattle.std.specs.Result.{IsErrAnd}
use Rattle.certificate.specs.Certificate.{found}
use Rattle.faults.specs.Fault.{fault_of, finding_of}
use Rattle.faults.specs.declared.Fault.{Fault}

-- where a test ends with the fault that another found, the finding is that fault
pub passed-on : {A : Type 0} {f : Fault} (r : Result A Fault) → IsErrAnd r (λ g. g ≡ f) → finding_of r ≡ found (fault_of f)
passed-on (Ok x) h = absurd h
passed-on (Err g) h = ap (λ (g : Fault). found (fault_of g)) h
