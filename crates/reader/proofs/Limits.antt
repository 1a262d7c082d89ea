-- What reading by an instrument's limits answers is what the instrument's model says.
use mathlib.Core.Path.{◌≡◌, sym, subst}
use mathlib.Core.List.{List}
use Prim.Native.Nat.{ℕ, ◌≤◌}
use Rattle.instrument.specs.declared.Instrument.{Instrument}
use Rattle.instrument.specs.declared.Limits.{Limits}
use Rattle.instrument.specs.Model.{model_of, model_with, limits_of}
use Rattle.instrument.proofs.Fits.{limits-fit}
use Rattle.kinds.specs.Kinds.{last_kind}
use Rattle.std.specs.Prelude.{Result}
use Rattle.format.specs.declared.Refusal.{Refusal}
use Rattle.offsets.specs.declared.Offsets.{Offsets}
use Rattle.sections.specs.declared.Contents.{Contents}
use Rattle.reader.specs.Contract.{Reads}

module _ (i : Instrument) {l : Limits} (is : l ≡ limits_of i) where
  pub readable : {n : ℕ} → (model_of i).points ≤ n → (l.bytes ≤ 4294967296) × (l.points ≤ n) × (l.kinds ≤ last_kind)
  readable {n} room =
      let f = limits-fit i is in (f.few_bytes, subst (λ (l : Limits). l.points ≤ n) (sym is) room, f.few_kinds)

  pub reads_as : {s : List ℕ} {r : Result Contents Refusal} {os os' : Offsets} {ps ps' : List ℕ} → Reads (model_with l) s r os os' ps ps' → Reads (model_of i) s r os os' ps ps'
  reads_as {s} {r} {os} {os'} {ps} {ps'} h = subst (λ (l : Limits). Reads (model_with l) s r os os' ps ps') is h
