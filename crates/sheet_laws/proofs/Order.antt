-- "at one record the table's order holds": the refusal of a record, by the first test that it does not pass; and the test, by the refusal.
use mathlib.Core.Path.{◌≡◌, refl}
use mathlib.Core.Bool.{Bool, true, false, not, cond, ◌&&◌, ◌||◌}
use mathlib.Core.List.{List, [], ◌∷◌}
use Prim.Native.Nat.{ℕ, suc}
use lib.ListN.{length}
use lib.Dec.{eqb, ltb}
use native.Mathlib.Omega.{arith}
use borrow.Author.Tests.{eq-eqb}
use Rattle.sheet.specs.Model.{Model}
use Rattle.sheet.specs.Kind.{Kind, kind_of}
use Rattle.sheet.specs.Record.{Record, byte_at, record_at, next_at}
use Rattle.sheet.specs.Reading.{Reading, tally, in_condition, is_new, wrong_items, over_limit, all_exist, is_primitive, wrong_outcomes, wrong_owner, wrong_channel, ◌when◌else◌, refusal_of}

-- tests with their numbers: the number of the first that holds, 0 if none does; and whether one of a number holds
record Test : Type 0 where
  number : ℕ
  holds : Bool

abbrev first_of : List Test → ℕ
first_of [] = 0
first_of (x ∷ xs) = x.number when x.holds else first_of xs

abbrev holds_of : ℕ → List Test → Bool
holds_of n [] = false
holds_of n (x ∷ xs) = cond (eqb x.number n) (holds_of n xs || x.holds) (holds_of n xs)

first_holds : (n : ℕ) (xs : List Test) → first_of xs ≡ suc n → holds_of (suc n) xs ≡ true
first_holds n [] e = absurd (omega (arith, e))
first_holds n (x ∷ xs) e = go x.holds e (first_holds n xs)
  where
    rest : Bool
    rest = holds_of (suc n) xs

    or-true : (b : Bool) → (b || true) ≡ true
    or-true true = refl
    or-true false = refl

    later : (c : Bool) → rest ≡ true → cond c (rest || false) rest ≡ true
    later true e = simp e
    later false e = e

    go : (b : Bool) → (x.number when b else first_of xs) ≡ suc n → (first_of xs ≡ suc n → rest ≡ true)
        → cond (eqb x.number (suc n)) (rest || b) rest ≡ true
    go true e more = simp (eq-eqb x.number (suc n) e, or-true rest)
    go false e more = later (eqb x.number (suc n)) (more e)

module _ (M : Model) (s : List ℕ) (at : ℕ) (r : Reading) where
  abbrev x : Record
  x = record_at s at

  abbrev k : Kind
  k = kind_of (byte_at s at)

  -- the tests, by the number of their refusal
  abbrev pub is_2 : Bool
  is_2 = eqb (byte_at s at) 0 || ltb M.kinds (byte_at s at)

  abbrev pub is_3 : Bool
  is_3 = ltb (length s) (next_at s at)

  abbrev pub is_4 : Bool
  is_4 = ltb k.section r.section || (eqb r.opened.section 1 && not (in_condition k.section k.role))

  abbrev pub is_19 : Bool
  is_19 = eqb (byte_at s at) 18 && ltb 0 at

  abbrev pub is_20 : Bool
  is_20 = eqb (byte_at s at) 19 && not (is_new s)

  abbrev pub is_5 : Bool
  is_5 = wrong_items k.section k.role (length r.opened.items)

  abbrev pub is_6 : Bool
  is_6 = over_limit M r x k.section k.role

  abbrev pub all_named : Bool
  all_named = all_exist M.events (tally r) k.fields x.values

  abbrev pub is_9 : Bool
  is_9 = is_primitive x && eqb (length (r.own 3)) 0

  abbrev pub is_18 : Bool
  is_18 = wrong_outcomes r x

  abbrev pub is_24 : Bool
  is_24 = wrong_owner r k x

  abbrev pub is_26 : Bool
  is_26 = wrong_channel r x

  abbrev tests : List Test
  tests =
      record { number = 2; holds = is_2 }
      ∷ record { number = 3; holds = is_3 }
      ∷ record { number = 4; holds = is_4 }
      ∷ record { number = 19; holds = is_19 }
      ∷ record { number = 20; holds = is_20 }
      ∷ record { number = 5; holds = is_5 }
      ∷ record { number = 6; holds = is_6 }
      ∷ record { number = 7; holds = not all_named }
      ∷ record { number = 9; holds = is_9 }
      ∷ record { number = 18; holds = is_18 }
      ∷ record { number = 24; holds = is_24 }
      ∷ record { number = 26; holds = is_26 }
      ∷ []

  -- a record that is refused does not pass the test of that number
  pub test-holds : (n : ℕ) → refusal_of M s at r ≡ suc n → holds_of (suc n) tests ≡ true
  test-holds n e = first_holds n tests e

  pub two : is_2 ≡ true → refusal_of M s at r ≡ 2
  two e2 = rw e2

  module _ (e2 : is_2 ≡ false) where
    pub three : is_3 ≡ true → refusal_of M s at r ≡ 3
    three e3 = rw (e2, e3)

    module _ (e3 : is_3 ≡ false) where
      pub four : is_4 ≡ true → refusal_of M s at r ≡ 4
      four e4 = rw (e2, e3, e4)

      module _ (e4 : is_4 ≡ false) where
        pub nineteen : is_19 ≡ true → refusal_of M s at r ≡ 19
        nineteen e19 = rw (e2, e3, e4, e19)

        module _ (e19 : is_19 ≡ false) where
          pub twenty : is_20 ≡ true → refusal_of M s at r ≡ 20
          twenty e20 = rw (e2, e3, e4, e19, e20)

          module _ (e20 : is_20 ≡ false) where
            pub five : is_5 ≡ true → refusal_of M s at r ≡ 5
            five e5 = rw (e2, e3, e4, e19, e20, e5)

            module _ (e5 : is_5 ≡ false) where
              pub six : is_6 ≡ true → refusal_of M s at r ≡ 6
              six e6 = rw (e2, e3, e4, e19, e20, e5, e6)

              module _ (e6 : is_6 ≡ false) where
                pub seven : all_named ≡ false → refusal_of M s at r ≡ 7
                seven e7 = rw (e2, e3, e4, e19, e20, e5, e6, e7)

                module _ (e7 : all_named ≡ true) where
                  pub nine : is_9 ≡ true → refusal_of M s at r ≡ 9
                  nine e9 = rw (e2, e3, e4, e19, e20, e5, e6, e7, e9)

                  module _ (e9 : is_9 ≡ false) where
                    pub eighteen : is_18 ≡ true → refusal_of M s at r ≡ 18
                    eighteen e18 = rw (e2, e3, e4, e19, e20, e5, e6, e7, e9, e18)

                    module _ (e18 : is_18 ≡ false) where
                      pub twenty_four : is_24 ≡ true → refusal_of M s at r ≡ 24
                      twenty_four e24 = rw (e2, e3, e4, e19, e20, e5, e6, e7, e9, e18, e24)

                      module _ (e24 : is_24 ≡ false) where
                        pub twenty-six : is_26 ≡ true → refusal_of M s at r ≡ 26
                        twenty-six e26 = rw (e2, e3, e4, e19, e20, e5, e6, e7, e9, e18, e24, e26)

                        pub takes : is_26 ≡ false → refusal_of M s at r ≡ 0
                        takes e26 = rw (e2, e3, e4, e19, e20, e5, e6, e7, e9, e18, e24, e26)
