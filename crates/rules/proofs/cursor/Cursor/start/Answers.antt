use mathlib.Core.Path.{sym}
use native.Mathlib.Omega.{arith}
use Rattle.rules.proofs.Groups.{rules-together}
use Rattle.rules.proofs.Walking.{before-subject, a-subject}
use Rattle.rules.proofs.cursor.Cursor.start.Goals as goal

pub returns : goal.returns
returns c =
    λ S x.
    let (own, nth) = a-subject x 0 (omega arith) in
    before-subject own (c.subject_at.ensures S own x nth) nth _ (sym (rules-together S))
