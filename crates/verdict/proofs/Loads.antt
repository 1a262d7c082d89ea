-- The verdict keeps the three demands: it accepts exactly the well formed sheets whose tests all pass, names the first fault else, and the runs
-- of an accepted sheet are safe and meet what they owe.
use mathlib.Core.Path.{◌≡◌, refl, sym, ap, ◌∙◌, subst}
use mathlib.Core.Bool.{Bool, true, false, cond}
use mathlib.Core.Option.{none, some}
use mathlib.Core.List.Memᴰ
use mathlib.Core.List.{List, [], ◌∷◌}
use Prim.Native.Nat.{ℕ, ◌≤◌}
use lib.ListN.{length}
use lib.Dec.{T, eqb, eqb→eq, eqb_refl}
use borrow.Author.Tests.{eqb-false, ne_eqb}
use Rattle.bits.proofs.Tests.{T_true}
use Rattle.certificate.specs.Certificate.{Fault}
use Rattle.sheet.specs.Model.{Model, set_events}
use Rattle.sheet.specs.Sheet.{Sheet, body}
use Rattle.sheet.specs.Record.{Bytes}
use Rattle.sheet.specs.Reading.{Reading, ReadResult, whole, refusal, read_sheet}
use Rattle.sheet.specs.Decode.{sheet_of}
use Rattle.sheet_laws.specs.Names.{HasBody, ChannelsFit}
use Rattle.sheet_laws.proofs.SheetOf.{sheet-is}
use Rattle.sheet_laws.proofs.Named.{names_exist}
use Rattle.sheet_laws.proofs.Channels.{channels_fit}
use Rattle.sheet_laws.proofs.First.{first_has_body}
use Rattle.sheet_laws.proofs.Owners.{owners_fit}
use Rattle.runs.specs.Rules.{rules, rules_from, AllMet, count}
use Rattle.runs.specs.Runs.{Move, run, Safe}
use Rattle.runs.specs.Owing.{Owing, OwingWhenOpen}
use Rattle.runs.proofs.Apart.{told_apart}
use Rattle.runs.proofs.Owners.{point-belongs}
use Rattle.runs.proofs.WhenOpen.{owing_when_open}
use Rattle.runs.proofs.Safe.{runs-are-safe}
use Rattle.runs.proofs.Owing.{runs-owe}
use Rattle.verdict.specs.Verdict.{Report, accepted, refused, unproved, certificates_needed, first_fault, judged, verdict_after, verdict_of}
use Rattle.verdict.specs.Reply.{reply_of}
use Rattle.verdict.specs.Promise.{WellFormed, EachCertified, Passes, FirstFault, RefusedFor, while_reading, wrong_count, AnswerForm, with_count, with_place, with_fault, Loads, LoadsAsPromised}
use Rattle.verdict.proofs.Reply.{IsAccepted, IsUnproved, reply-refused, reply-unproved}
use Rattle.verdict.proofs.Judged.{Tried, all_pass, one_fails, tried, pass_all, fault-found}
use Rattle.verdict.proofs.RulesMet.{all-met, all_pass as exact-pass, all-below}
use Rattle.verdict.proofs.Models.{on_larger, judged-as-before}

-- Reports told apart ----------------------------------------------------------------------------------------------------

abbrev count_in : Report → ℕ
count_in (accepted n) = n
count_in (refused n at) = 0
count_in (unproved r k f) = 0

-- The verdict, by what reading finds ------------------------------------------------------------------------------------

module _ (M : Model) (s : List ℕ) where
  pub verdict-is : verdict_of M s ≡ verdict_after M s (read_sheet M s)
  unfolding verdict_of
  verdict-is = refl

  pub after-whole : (r : Reading) → read_sheet M s ≡ whole r → verdict_after M s (whole r) ≡ judged M s (sheet_of M s)
  unfolding verdict_after
  after-whole r read = ap (judged M s) (sym (sheet-is M s r read))

  pub after-refusal : (n at : ℕ) (r : Reading) → verdict_after M s (refusal n at r) ≡ refused n (some at)
  unfolding verdict_after
  after-refusal n at r = refl

  module _ (S : Sheet) where
    abbrev pub enough : Bool
    enough = eqb (length S.certificates) (certificates_needed (rules S))

    abbrev pub first : Report
    first = first_fault M.events (rules S) S.certificates (accepted (count S))

    pub judged-is : judged M s S ≡ cond enough first (refused 10 (some (length s)))
    unfolding judged
    judged-is = refl

  abbrev Passing : Type 0
  Passing = EachCertified (Passes M.events) (rules (sheet_of M s)) (sheet_of M s).certificates

  -- the refusal that a report names
  abbrev RefusalIn : Report → Type 0
  RefusalIn (accepted n) = ⊥
  RefusalIn (refused n none) = ⊥
  RefusalIn (refused n (some at)) = RefusedFor M s n at
  RefusalIn (unproved r k f) = ⊥

  not-both : (x : Report) → RefusalIn x → IsAccepted x → ⊥
  not-both (accepted n) f a = f
  not-both (refused n at) f a = a
  not-both (unproved r k v) f a = f

  nor-unproved : (x : Report) → RefusalIn x → IsUnproved x → ⊥
  nor-unproved (accepted n) f u = f
  nor-unproved (refused n at) f u = u
  nor-unproved (unproved r k v) f u = f

  -- refused, or well formed and then what the tests of the rules come to
  data Decided (report : Report) : Type 0 where
    refuses : (x : Report) → RefusalIn x → report ≡ x → Decided report
    tests : WellFormed M s → Tried M.events (accepted (count (sheet_of M s))) (rules (sheet_of M s)) (sheet_of M s).certificates report → Decided report

  decided : Decided (verdict_of M s)
  decided = subst Decided (sym verdict-is) (by-reading (read_sheet M s) refl)
    where
      S : Sheet
      S = sheet_of M s

      by_number : (r : Reading) → read_sheet M s ≡ whole r → (b : Bool) → enough S ≡ b → Decided (cond b (first S) (refused 10 (some (length s))))
      by_number r read true e =
          let same = eqb→eq _ _ (subst T (sym e) tt) in
          tests (record { reading = r; read = read; enough = same }) (tried M.events (accepted (count S)) (rules S) S.certificates same)
      by_number r read false e = refuses _ (wrong_count read (eqb-false _ _ e)) refl

      by-reading : (x : ReadResult) → read_sheet M s ≡ x → Decided (verdict_after M s x)
      by-reading (refusal n at r) read = subst Decided (sym (after-refusal n at r)) (refuses _ (while_reading read) refl)
      by-reading (whole r) read = subst Decided (sym (after-whole r read ∙ judged-is S)) (by_number r read (enough S) refl)

  -- Demand 1 ------------------------------------------------------------------------------------------------------------

  is-total : AnswerForm (verdict_of M s)
  is-total = go decided
    where
      refused-total : (x : Report) → RefusalIn x → AnswerForm x
      refused-total (accepted n) f = absurd f
      refused-total (refused n none) f = absurd f
      refused-total (refused n (some at)) f = with_place n at
      refused-total (unproved r k v) f = absurd f

      go : Decided (verdict_of M s) → AnswerForm (verdict_of M s)
      go (refuses x f e) = subst AnswerForm (sym e) (refused-total x f)
      go (tests w (all_pass p e)) = subst AnswerForm (sym e) (with_count (count (sheet_of M s)))
      go (tests w (one_fails r k v f e)) = subst AnswerForm (sym e) (with_fault r k v)

  -- Demand 2 ------------------------------------------------------------------------------------------------------------

  accepted-out : (n : ℕ) → verdict_of M s ≡ accepted n → WellFormed M s × Passing × (n ≡ count (sheet_of M s))
  accepted-out n h = go decided
    where
      go : Decided (verdict_of M s) → WellFormed M s × Passing × (n ≡ count (sheet_of M s))
      go (refuses x f e) = absurd (not-both x f (subst IsAccepted (sym h ∙ e) tt))
      go (tests w (all_pass p e)) = (w, p, ap count_in (sym h ∙ e))
      go (tests w (one_fails r k v f e)) = absurd (subst IsAccepted (sym h ∙ e) tt)

  -- of a sheet that is read whole, by whether it has as many certificates as its rules need
  whole_is : {r : Reading} → read_sheet M s ≡ whole r → (b : Bool) → enough (sheet_of M s) ≡ b
      → verdict_of M s ≡ cond b (first (sheet_of M s)) (refused 10 (some (length s)))
  whole_is {r} read b e =
      verdict-is
      ∙ (ap (verdict_after M s) read
      ∙ (after-whole r read
      ∙ (judged-is (sheet_of M s) ∙ ap (λ b. cond b (first (sheet_of M s)) (refused 10 (some (length s)))) e)))

  well-formed-is : WellFormed M s → verdict_of M s ≡ first (sheet_of M s)
  well-formed-is w = whole_is w.read true is-enough
    where
      certificates : ℕ
      certificates = length (sheet_of M s).certificates

      is-enough : enough (sheet_of M s) ≡ true
      is-enough = T_true (enough (sheet_of M s)) (subst (λ k. T (eqb certificates k)) w.enough (eqb_refl certificates))

  accepted-in : WellFormed M s → Passing → verdict_of M s ≡ accepted (count (sheet_of M s))
  accepted-in w p = well-formed-is w ∙ pass_all M.events (accepted (count (sheet_of M s))) p

  -- the first fault that a report names
  abbrev FaultIn : Report → Type 0
  FaultIn (accepted n) = Unit {0}
  FaultIn (refused n at) = Unit {0}
  FaultIn (unproved r k f) = FirstFault M.events (rules (sheet_of M s)) (sheet_of M s).certificates r k f

  unproved-out : (r k : ℕ) (v : Fault) → verdict_of M s ≡ unproved r k v → WellFormed M s × FaultIn (unproved r k v)
  unproved-out r k v h = go decided
    where
      go : Decided (verdict_of M s) → WellFormed M s × FaultIn (unproved r k v)
      go (refuses x g y) = absurd (nor-unproved x g (subst IsUnproved (sym h ∙ y) tt))
      go (tests w (all_pass p x)) = absurd (subst IsUnproved (sym h ∙ x) tt)
      go (tests w (one_fails r' k' v' f x)) = (w, subst FaultIn (sym x ∙ h) f)

  unproved-in : (r k : ℕ) (v : Fault) → WellFormed M s → FaultIn (unproved r k v) → verdict_of M s ≡ unproved r k v
  unproved-in r k v w f = well-formed-is w ∙ fault-found M.events (accepted (count (sheet_of M s))) f

  refused-out : (n at : ℕ) → verdict_of M s ≡ refused n (some at) → RefusedFor M s n at
  refused-out n at h = go decided
    where
      go : Decided (verdict_of M s) → RefusedFor M s n at
      go (refuses x f e) = subst RefusalIn (sym e ∙ h) f
      go (tests w (all_pass p e)) = absurd (subst IsAccepted (sym (sym h ∙ e)) tt)
      go (tests w (one_fails r k v f e)) = absurd (subst IsUnproved (sym (sym h ∙ e)) tt)

  refused-in : {n at : ℕ} → RefusedFor M s n at → verdict_of M s ≡ refused n (some at)
  refused-in {n} {at} (while_reading {r = r} e) = verdict-is ∙ (ap (verdict_after M s) e ∙ after-refusal n at r)
  refused-in (wrong_count read others) = whole_is read false (ne_eqb _ _ others)

  -- Demand 3 ------------------------------------------------------------------------------------------------------------

  pub accepted-has-body : (n : ℕ) → verdict_of M s ≡ accepted n → HasBody (body (sheet_of M s) 0)
  accepted-has-body n h = let (w, p, e) = accepted-out n h in first_has_body M s w.reading w.read

  -- what 26 leaves
  pub accepted-fits : (n : ℕ) → verdict_of M s ≡ accepted n → ChannelsFit (sheet_of M s)
  accepted-fits n h = let (w, p, e) = accepted-out n h in channels_fit M s w.reading w.read

  module _ (wide : set_events M ≤ M.events) (bytes : Bytes s) where
    -- the rules of an accepted sheet are true
    pub accepted-met : (n : ℕ) → verdict_of M s ≡ accepted n → AllMet (rules_from (0 ∷ []) (sheet_of M s))
    unfolding rules
    accepted-met n h =
        let (w, p, e) = accepted-out n h in
        all-met M.events p (all-below M s wide bytes w.reading w.read (0 ∷ []))

    -- after every list of moves, whichever it is, a run of an accepted sheet is safe
    pub accepted-safe : (n : ℕ) → verdict_of M s ≡ accepted n → (ms : List Move) → Safe (sheet_of M s) (run (sheet_of M s) 0 ms)
    unfolding rules
    accepted-safe n h ms = runs-are-safe (sheet_of M s) (accepted-fits n h) (0 ∷ []) (accepted-met n h) 0 (Memᴰ.head refl) (accepted-has-body n h) ms

    -- and meets what it owes
    pub accepted-owing : (n : ℕ) → verdict_of M s ≡ accepted n → (ms : List Move) → Owing (sheet_of M s) (run (sheet_of M s) 0 ms)
    accepted-owing n h ms = runs-owe (sheet_of M s) (accepted-fits n h) (0 ∷ []) (accepted-met n h) 0 (Memᴰ.head refl) (accepted-has-body n h) ms

    -- what the loader promises is true of the definition's answer
    pub loads : Loads M s (verdict_of M s)
    unfolding rules
    loads =
        record {
          stated = refl;
          total = is-total;
          accepted_iff = λ n. (accepted-out n, λ x. accepted-in x.0 x.1 ∙ ap (λ k. accepted k) (sym x.2));
          refused_iff = λ n at. (λ e. refused-out n at (reply-refused (verdict_of M s) n at e), λ f. ap reply_of (refused-in f));
          unproved_iff =
              λ r k v. (λ e. unproved-out r k v (reply-unproved (verdict_of M s) r k v e), λ x. ap reply_of (unproved-in r k v x.0 x.1));
          rules_met = accepted-met;
          sound = accepted-safe;
          owing = accepted-owing;
          told_apart = told_apart (sheet_of M s) 0;
          owned = λ r read all. point-belongs (sheet_of M s) (names_exist M s r read) all (owners_fit M s r read) 0 (first_has_body M s r read);
          complete = λ w h c. accepted-in w (exact-pass M.events c h);
          on_larger = λ M' N. on_larger M M' N s bytes;
          as_before = judged-as-before M s;
        }

pub loads-as-promised : (M : Model) → LoadsAsPromised M
loads-as-promised M wide s bytes = loads M s wide bytes

-- what is owed, said with no numbers, follows from the promise alone
pub promised-when-open : {M : Model} {s : List ℕ} {answer : Report} → Loads M s answer → (n : ℕ) → answer ≡ accepted n → (ms : List Move)
    → OwingWhenOpen (sheet_of M s) 0 ms
promised-when-open {M} {s} l n h ms = (owing_when_open (sheet_of M s) 0 ms (l.told_apart ms)).0 (l.owing n h ms)
