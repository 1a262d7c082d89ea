-- A history that goes on from an earlier one by a word with a property.
use mathlib.Core.Path.{◌≡◌, sym, ap, ◌∙◌, subst}
use mathlib.Core.List.{[], ◌++◌, append_assoc, append-nil}
use lib.Seq.{drop-append_seam}
use Rattle.condition.specs.Condition.{Word}
use Rattle.runs.specs.Runs.{since}

-- h is b followed by a word that has the property P
pub record Adds (b h : Word) (P : Word → Type 0) : Type 0 where
  pub word : Word
  pub is : h ≡ b ++ word
  pub inside : P word

module _ {b h : Word} {P : Word → Type 0} (a : Adds b h P) where
  -- the word is what the definition of runs calls `since`
  pub adds-word : since b h ≡ a.word
  adds-word = ap (since b) a.is ∙ drop-append_seam b a.word

  pub adds-since : P (since b h)
  adds-since = subst P (sym adds-word) a.inside

  module _ {Q : Word → Type 0} where
    pub adds-more : (w : Word) → ((u : Word) → P u → Q (u ++ w)) → Adds b (h ++ w) Q
    adds-more w f =
        record {
          word = a.word ++ w;
          is = ap (λ (x : Word). x ++ w) a.is ∙ append_assoc b a.word w;
          inside = f a.word a.inside;
        }

    pub adds-weaker : ((u : Word) → P u → Q u) → Adds b h Q
    adds-weaker f = record { word = a.word; is = a.is; inside = f a.word a.inside }

pub adds-nothing : {h : Word} {P : Word → Type 0} → P [] → Adds h h P
adds-nothing {h} x = record { word = []; is = sym (append-nil h); inside = x }
