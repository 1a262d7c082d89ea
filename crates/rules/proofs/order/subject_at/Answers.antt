use Prim.Native.Nat.{◌-◌, ◌<◌}
use mathlib.Core.List.{[], ◌∷◌}
use lib.ListN.{length}
use native.Mathlib.Omega.{arith}
use Rattle.index.proofs.Indexed.{method-in, method-is, step_is}
use Rattle.rules.proofs.Groups.{starts_first, first_group, method-group, step-group}
use Rattle.rules.proofs.Told.{listed-rules}
use Rattle.rules.proofs.order.subject_at.Goals as goal

pub method-requires : goal.method-requires
method-requires c = let (S, x) = c.requires.sheet_in in (S, method-in x.indexes 0 x.indexes.a_method)

pub returns-then-number-eq0 : goal.returns-then-number-eq0
returns-then-number-eq0 c =
    λ S xs x is.
    record {
      declared_is = c.method.ensures S (method-in x.indexes 0 x.indexes.a_method);
      rules_are = first_group S _ is c.if-number-eq0.true;
    }

pub method_subject-requires : goal.method_subject-requires
method_subject-requires c = let (S, x) = c.requires.sheet_in in (S, x.indexes, omega (arith, x.methods_are))

pub returns-then-k-listed : goal.returns-then-k-listed
returns-then-k-listed c =
    λ S xs x is.
    let a = c.args in
    let l : a.number - 1 < length S.methods = omega (arith, x.methods_are) in
    listed-rules a.x.sheet.now S c.method_subject.result
    (method-group S a.number is (a.number - 1) (omega arith) _ (method-is x.indexes _ l) l)
    (c.method_subject.ensures S (0 ∷ []) (starts_first (a.number - 1)) x.indexes l)

pub step_subject-requires : goal.step_subject-requires
step_subject-requires c =
    let (S, x) = c.requires.sheet_in in
    (S, x.indexes, omega (arith, x.methods_are, x.steps_are, c.requires.number_bound))

pub returns : goal.returns
returns c =
    λ S xs x is.
    let a = c.args in
    let l : a.number - 1 - a.x.counts.methods < length S.steps = omega (arith, x.methods_are, x.steps_are, c.requires.number_bound) in
    listed-rules a.x.sheet.now S c.step_subject.result
    (step-group S a.number is (a.number - 1 - a.x.counts.methods) (omega (arith, x.methods_are)) _ (step_is x.indexes _ l))
    (c.step_subject.ensures S x.indexes l)
