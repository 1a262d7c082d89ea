-- Bytes that are read behind those that were read before.
use Rattle.std.proofs.Common.{◌≡◌, ℕ, ◌+◌, ◌≤◌, List, ◌++◌, Option, length, take, ap, sym, subst, ◌∙◌, length-take-le}
use Rattle.std.proofs.KnownBytes.{Consumes-trans}
use Rattle.std.proofs.Math.Seq.{take-append-add}
use Rattle.std.proofs.lemmas.List.{take-append-le}
use Rattle.std.specs.Io.KnownBytes.{Consumes}
use borrow.Rule.Slice.PartMut.{put_mid, post_of}

take-put_mid_on : (d k n : ℕ) (room part : List ℕ) → d ≤ length room → n ≤ length part
    → take (d + n) (put_mid d k room part) ≡ take d room ++ take n part
take-put_mid_on d k n room part within fits =
    let front = take d room in
    ap (λ m. take (m + n) (front ++ (part ++ post_of d k room))) (sym (length-take-le d room within))
    ∙ take-append-add front (part ++ post_of d k room) n ∙ ap (λ l. front ++ l) (take-append-le n part (post_of d k room) fits)

-- what is read in two pieces is read as one
pub read-on : (a b c : Option (List ℕ)) (d k n : ℕ) (room part : List ℕ) → d ≤ length room → n ≤ length part
    → Consumes a b (take d room) → Consumes b c (take n part) → Consumes a c (take (d + n) (put_mid d k room part))
read-on a b c d k n room part within fits p q =
    subst (Consumes a c) (sym (take-put_mid_on d k n room part within fits)) (Consumes-trans a b c (take d room) (take n part) p q)
