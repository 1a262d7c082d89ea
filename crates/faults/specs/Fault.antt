-- The fault, and the finding, that a value of the code stands for.
use Rattle.std.specs.Prelude.{Result, Ok, Err}
use Rattle.certificate.specs.Certificate as certificate
use Rattle.certificate.specs.Certificate.{fine, found}
use Rattle.faults.specs.declared.Fault.{Fault}

-- "clause, pair, event, place"
abbrev pub fault_of : Fault → certificate.Fault
fault_of f = record { clause = f.clause; pair = f.pair; event = f.event; place = f.place }

-- nothing wrong, or a fault
abbrev pub finding_of : {A : Type 0} → Result A Fault → certificate.Finding
finding_of (Ok x) = fine
finding_of (Err f) = found (fault_of f)
