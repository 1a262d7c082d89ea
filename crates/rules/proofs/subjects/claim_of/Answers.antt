use Rattle.claims.proofs.Kth.{kth-as}
use Rattle.rules.proofs.Told.{told}
use Rattle.rules.proofs.subjects.claim_of.Goals as goal

pub returns-in-First : goal.returns-in-First
returns-in-First c =
    λ s S xs is.
    let h = told s S xs c.in_ok-method.was c.in-First.is is in
    kth-as h.rules_are (c.first_claim.ensures s S h.declared_is)

pub returns-in-Body : goal.returns-in-Body
returns-in-Body c =
    λ s S xs is.
    let h = told s S xs c.in_ok-method.was c.in-Body.is is in
    kth-as h.rules_are (c.body_claim.ensures s S h.starts h.inner h.body_is)

pub returns-in-Event : goal.returns-in-Event
returns-in-Event c =
    λ s S xs is.
    let h = told s S xs c.in_ok-method.was c.in-Event.is is in
    kth-as h.rules_are (c.event_claim.ensures s S h.from h.to h.from_is h.to_is h.fits)

pub returns-in-Call : goal.returns-in-Call
returns-in-Call c =
    λ s S xs is.
    let h = told s S xs c.in_ok-method.was c.in-Call.is is in
    kth-as h.rules_are (c.call_claim.ensures s S h.call h.call_is)

pub returns-in-Pass : goal.returns-in-Pass
returns-in-Pass c =
    λ s S xs is.
    let h = told s S xs c.in_ok-method.was c.in-Pass.is is in
    kth-as h.rules_are (c.pass_claim.ensures s S h.from h.to h.from_is h.to_is)

pub returns-in-Stop : goal.returns-in-Stop
returns-in-Stop c =
    λ s S xs is.
    let h = told s S xs c.in_ok-method.was c.in-Stop.is is in
    kth-as h.rules_are (c.stop_claim.ensures s S h.from h.due_is)
