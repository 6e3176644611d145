-- What is seen of a line at a glance is what reading it gives, for every kind but a site line.
-- Assumes nothing.
use Prim.Native.Nat.{ℕ, zero, suc, ◌+◌, ◌≤◌, ◌<◌, ◌^◌}
use mathlib.Core.Bool.{Bool, true, false, not, cond, ◌&&◌, ◌||◌, and-false}
use mathlib.Core.List.{List, [], ◌∷◌}
use mathlib.Core.Logic.{◌⊎◌, inl, inr}
use mathlib.Core.Path.{◌≡◌, refl, ap, ◌∙◌, sym}
use native.Mathlib.Omega.{arith}
use borrow.Author.Tests.{ne_eqb, eqb-true, le-leb, leb-true, not-true}
use lib.Dec.{eqb, leb}
use lib.ListN.{length, get_or}
use Rattle.std.specs.Bool.{then_some}
use Rattle.std.specs.Prelude.{Some, None, Ok, Err}
use Rattle.digits.specs.Digits.{small_form, all_digits, number, digits}
use Rattle.digits.specs.Read.{reading}
use Rattle.digits.proofs.Laws.{digits_good, digits_number, number_digits}
use Rattle.line.specs.Family.{Family, Base, Finishes}
use Rattle.line.specs.declared.Frame.{Frame}
use Rattle.line.specs.declared.Frame.TheVariants.{Site, Call, Spawn, Sync, Return, Cost, Instructions, Async, Finish}
use Rattle.digits.specs.Word.{plainly}
use Rattle.line.specs.Zeros.{all_zero}
use Rattle.line.specs.Table.{Fields, frame, none, only, value_only, is_base, table_of, fields_of}
use Rattle.line.specs.Read.{part, fields, wrong, read_line_of, read_line, Read, says}
use Rattle.line.specs.Write.{chars}
use Rattle.line.specs.Seeing.{seen_of, glanced, is_bare, is_made, is_valued}
use Rattle.digits.proofs.Words.{plain-number}
use Rattle.line.proofs.Lines.{part_length}
use Rattle.line.proofs.Cases.{CaseOf, long, wrongs, unlisted, listed, line-case-of}
use Rattle.line.proofs.RoundTrip.{table-fields-of, fields-narrow, chars-back}
use Rattle.line.proofs.Small.{small_is, zeros, part-digits, part-zeros}
use Rattle.line.proofs.Zero.{zero_number}
use Rattle.line.proofs.Short.{five, six, value_line, made-line, bare-line}

-- whether the characters of a line are right for a kind whose second one is c
abbrev pub right_for : Family → ℕ → List ℕ → Bool
right_for g c s =
    cond (eqb c 54) (is_valued s)
    (cond (eqb c 53) (is_bare 48 s)
    (cond (eqb c 52 && is_base g) (is_bare 48 s)
    (cond (eqb c 51) (cond (is_base g) (is_made 48 s) (is_bare 49 s))
    (cond (eqb c 50) (is_made 48 s || (not (is_base g) && is_made 49 s))
    (cond (eqb c 55) (is_valued s)
    false)))))

-- digits that are not all 0 are a number that is not 0
positive : (p : List ℕ) → length p ≡ 8 → all_digits p ≡ true → all_zero p ≡ false → 1 ≤ number p
positive p h d z = go (number p) refl
  where
    go : (x : ℕ) → number p ≡ x → 1 ≤ number p
    go zero e =
        let q : digits 8 0 ≡ small_form p = ap (λ (n : ℕ). digits n 0) (sym h) ∙ ap (digits (length p)) (sym e) ∙ number_digits p d in
        absurd (let t : true ≡ false = ap all_zero q ∙ zeros p ∙ z in let b : ◌≡◌ {A = ℕ} 0 1 = ap (λ (x : Bool). cond x 0 1) t in omega arith)
    go (suc x) e = omega arith

-- the characters of a cost, and those of its instructions, are right for it
right_value : (v : ℕ) → 1 ≤ v → v < 16 ^ 8 → (all_digits (digits 8 v) && not (all_zero (digits 8 v))) ≡ true
right_value v least most = go (all_zero (digits 8 v)) refl
  where
    go : (z : Bool) → all_zero (digits 8 v) ≡ z → (all_digits (digits 8 v) && not (all_zero (digits 8 v))) ≡ true
    go true e = absurd (let n = zero_number (digits 8 v) e in let m = digits_number 8 v most in omega arith)
    go false e = ap (λ (b : Bool). b && not (all_zero (digits 8 v))) (digits_good 8 v) ∙ ap not e

-- those that the table has are at least 1
least : (v : ℕ) (f g : Frame) → only (value_only 0 v 0 0) f ≡ frame g → 1 ≤ v
least v f g t = go (leb 1 v) refl
  where
    go : (b : Bool) → leb 1 v ≡ b → 1 ≤ v
    go true e = leb-true 1 v e
    go false e = absurd (let q : only (value_only 0 v 0 0) f ≡ none = simp e in let z : ◌≡◌ {A = ℕ} 0 1 = cc in omega arith)

-- those of a call, a spawn or an async
right_made : (x : ℕ) → (all_digits (digits 4 x) && true) ≡ true
right_made x = ap (λ (b : Bool). b && true) (digits_good 4 x)

-- the characters of a frame that is no site line are right for its kind
right_frame : (g : Family) (f i : Frame) → table_of g (fields_of f) ≡ frame i → (fields_of f).value < 16 ^ 8 → (seen_of f ≡ None) ⊎ (right_for g (get_or (chars (fields_of f)) 1 0) (chars (fields_of f)) ≡ true)
right_frame g (Site s p) i t m = inl refl
right_frame g (Call s) i t m = inr (rw (right_made s) refl)
right_frame Base (Spawn s) i t m = inr (right_made s)
right_frame Finishes (Spawn s) i t m = absurd (let z : ◌≡◌ {A = ℕ} 0 1 = cc in omega arith)
right_frame Base Sync i t m = inr refl
right_frame Finishes Sync i t m = absurd (let z : ◌≡◌ {A = ℕ} 0 1 = cc in omega arith)
right_frame g Return i t m = inr refl
right_frame g (Cost v) i t m = inr (right_value v (least v (Cost v) i t) m)
right_frame g (Instructions v) i t m = inr (right_value v (least v (Instructions v) i t) m)
right_frame Base (Async s) i t m = absurd (let z : ◌≡◌ {A = ℕ} 0 1 = cc in omega arith)
right_frame Finishes (Async s) i t m = inr (right_made s)
right_frame Base Finish i t m = absurd (let z : ◌≡◌ {A = ℕ} 0 1 = cc in omega arith)
right_frame Finishes Finish i t m = inr refl

-- the small-letter form of a line is right where the line is
right_small : (g : Family) (s : List ℕ) → right_for g (get_or (small_form s) 1 0) (small_form s) ≡ right_for g (get_or s 1 0) s
right_small g s =
    rw (
      small_is s 1 55 (omega arith),
      small_is s 1 54 (omega arith),
      small_is s 1 53 (omega arith),
      small_is s 1 52 (omega arith),
      small_is s 1 51 (omega arith),
      small_is s 1 50 (omega arith),
      small_is s 0 48 (omega arith),
      small_is s 0 49 (omega arith),
      small_is s 22 10 (omega arith),
      part-zeros s 14 8,
      part-zeros s 2 4,
      part-zeros s 6 8,
      part-digits s 2 4,
      part-digits s 6 8,
    )

module _ (g : Family) (s : List ℕ) (n : ℕ) where
  -- what is not right is not seen
  pub unseen : right_for g (get_or s 1 0) s ≡ false → None ≡ glanced (read_line_of g s n)
  unseen e = go (line-case-of g s n)
    where
      not_right : (f : Frame) → chars (fields_of f) ≡ small_form s → (seen_of f ≡ None) ⊎ (right_for g (get_or (chars (fields_of f)) 1 0) (chars (fields_of f)) ≡ true) → seen_of f ≡ None
      not_right f q (inl o) = o
      not_right f q (inr r) =
          absurd (let t : true ≡ false = sym r ∙ ap (λ (l : List ℕ). right_for g (get_or l 1 0) l) q ∙ right_small g s ∙ e in let b : ◌≡◌ {A = ℕ} 0 1 = ap (λ (x : Bool). cond x 0 1) t in omega arith)

      go : CaseOf g s n (read_line_of g s n) → None ≡ glanced (read_line_of g s n)
      go (long h r) = sym (ap glanced r)
      go (wrongs h w r) = sym (ap glanced r)
      go (unlisted h w t r) = sym (ap glanced r)
      go (listed h w f t r) =
          let x = table-fields-of g (fields s) f t in
          sym (ap glanced r ∙ not_right f (ap chars x ∙ chars-back s h w) (right_frame g f f (ap (table_of g) x ∙ t) (below h w f x)))
        where
          below : length s ≡ 23 → wrong s ≡ false → (f : Frame) → fields_of f ≡ fields s → (fields_of f).value < 16 ^ 8
          below h w f x = let e : (fields_of f).value ≡ (fields s).value = ap (λ (y : Fields). y.value) x in omega (arith, (fields-narrow s h w).value)

  module _ (h : length s ≡ 23) where
    -- a numeral of digits
    numeral : (from size : ℕ) → from + size ≤ 23 → size ≤ 8 → all_digits (part s from size) ≡ true → Some (plainly (part s from size)) ≡ reading (part s from size)
    numeral from size fit short d =
        let l = part_length s from size (omega arith) in
        ap Some (plain-number (part s from size) d)
        ∙ sym (simp (le-leb (length (part s from size)) 8 (omega arith), d))

    -- a kind whose second character is c; a and k: its first one, and its number
    module _ (c : ℕ) (at : get_or s 1 0 ≡ c) where
      -- what is right for it is seen, and nothing where it is not
      see : (right : Bool) (f : Frame) → (right ≡ true → says n f ≡ read_line_of g s n) → Some f ≡ seen_of f → (right ≡ false → right_for g c s ≡ false)
          → then_some right f ≡ glanced (read_line_of g s n)
      see true f reads sees wrong = sees ∙ ap glanced (reads refl)
      see false f reads sees wrong = unseen (rw at (wrong refl))

      -- with a value alone
      see_value : (k : ℕ) → Some k ≡ reading (48 ∷ c ∷ []) → (f : ℕ → Frame) → ((v : ℕ) → table_of g (record { kind = k; site = 0; value = v; file = 0; column = 0 }) ≡ only (value_only 0 v 0 0) (f v))
          → ((v : ℕ) → Some (f v) ≡ seen_of (f v)) → (is_valued s ≡ false → right_for g c s ≡ false)
          → then_some (is_valued s) (f (plainly (part s 6 8))) ≡ glanced (read_line_of g s n)
      see_value k is f t sees = see (is_valued s) (f (plainly (part s 6 8))) reads (sees (plainly (part s 6 8)))
        where
          reads : is_valued s ≡ true → says n (f (plainly (part s 6 8))) ≡ read_line_of g s n
          reads e =
              let q = six (eqb (get_or s 0 0) 48) (all_zero (part s 14 8)) (eqb (get_or s 22 0) 10) (all_zero (part s 2 4)) (all_digits (part s 6 8)) (not (all_zero (part s 6 8))) e in
              let p = positive (part s 6 8) (part_length s 6 8 (omega arith)) q.4 (not-true (all_zero (part s 6 8)) q.5) in
              value_line g s n h 48 c k (eqb-true (get_or s 0 0) 48 q.0) at is (eqb-true (get_or s 22 0) 10 q.2) q.1 f t q.3 (plainly (part s 6 8)) (numeral 6 8 (omega arith) (omega arith) q.4)
              (omega (arith, plain-number (part s 6 8) q.4))

      -- with a site alone
      see_made : (a k : ℕ) → Some k ≡ reading (a ∷ c ∷ []) → (f : ℕ → Frame) → ((x : ℕ) → table_of g (record { kind = k; site = x; value = 0; file = 0; column = 0 }) ≡ frame (f x))
          → ((x : ℕ) → Some (f x) ≡ seen_of (f x)) → (is_made a s ≡ false → right_for g c s ≡ false)
          → then_some (is_made a s) (f (plainly (part s 2 4))) ≡ glanced (read_line_of g s n)
      see_made a k is f t sees = see (is_made a s) (f (plainly (part s 2 4))) reads (sees (plainly (part s 2 4)))
        where
          reads : is_made a s ≡ true → says n (f (plainly (part s 2 4))) ≡ read_line_of g s n
          reads e =
              let q = five (eqb (get_or s 0 0) a) (all_zero (part s 14 8)) (eqb (get_or s 22 0) 10) (all_digits (part s 2 4)) (all_zero (part s 6 8)) e in
              made-line g s n h a c k (eqb-true (get_or s 0 0) a q.0) at is (eqb-true (get_or s 22 0) 10 q.2) q.1 f t (plainly (part s 2 4)) (numeral 2 4 (omega arith) (omega arith) q.3) q.4

      -- with neither
      see_bare : (a k : ℕ) → Some k ≡ reading (a ∷ c ∷ []) → (f : Frame) → table_of g (record { kind = k; site = 0; value = 0; file = 0; column = 0 }) ≡ frame f → Some f ≡ seen_of f
          → (is_bare a s ≡ false → right_for g c s ≡ false) → then_some (is_bare a s) f ≡ glanced (read_line_of g s n)
      see_bare a k is f t = see (is_bare a s) f reads
        where
          reads : is_bare a s ≡ true → says n f ≡ read_line_of g s n
          reads e =
              let q = five (eqb (get_or s 0 0) a) (all_zero (part s 14 8)) (eqb (get_or s 22 0) 10) (all_zero (part s 2 4)) (all_zero (part s 6 8)) e in
              bare-line g s n h a c k (eqb-true (get_or s 0 0) a q.0) at is (eqb-true (get_or s 22 0) 10 q.2) q.1 f t q.3 q.4

    -- what both families have
    pub see_cost : get_or s 1 0 ≡ 54 → then_some (is_valued s) (Cost (plainly (part s 6 8))) ≡ glanced (read_line_of g s n)
    see_cost at = see_value 54 at 6 refl Cost (λ v. refl) (λ v. refl) (λ e. e)

    pub see_instructions : get_or s 1 0 ≡ 55 → then_some (is_valued s) (Instructions (plainly (part s 6 8))) ≡ glanced (read_line_of g s n)
    see_instructions at = see_value 55 at 7 refl Instructions (λ v. refl) (λ v. refl) (λ e. e)

    pub see_return : get_or s 1 0 ≡ 53 → then_some (is_bare 48 s) Return ≡ glanced (read_line_of g s n)
    see_return at = see_bare 53 at 48 5 refl Return refl refl (λ e. e)

module _ (s : List ℕ) (n : ℕ) (h : length s ≡ 23) where
  -- document 01's family
  pub see_sync : get_or s 1 0 ≡ 52 → then_some (is_bare 48 s) Sync ≡ glanced (read_line s n)
  see_sync at = see_bare Base s n h 52 at 48 4 refl Sync refl refl (λ e. e)

  pub see_spawn : get_or s 1 0 ≡ 51 → then_some (is_made 48 s) (Spawn (plainly (part s 2 4))) ≡ glanced (read_line s n)
  see_spawn at = see_made Base s n h 51 at 48 3 refl Spawn (λ x. refl) (λ x. refl) (λ e. e)

  pub see_call : get_or s 1 0 ≡ 50 → then_some (is_made 48 s) (Call (plainly (part s 2 4))) ≡ glanced (read_line s n)
  see_call at = see_made Base s n h 50 at 48 2 refl Call (λ x. refl) (λ x. refl) (λ e. rw e refl)

  -- any other kind
  pub see_other : (get_or s 1 0 ≡ 54 → ⊥) → (get_or s 1 0 ≡ 53 → ⊥) → (get_or s 1 0 ≡ 52 → ⊥) → (get_or s 1 0 ≡ 51 → ⊥) → (get_or s 1 0 ≡ 50 → ⊥) → (get_or s 1 0 ≡ 55 → ⊥) → None ≡ glanced (read_line s n)
  see_other a b c d e f = unseen Base s n (simp (ne_eqb (get_or s 1 0) 54 a, ne_eqb (get_or s 1 0) 53 b, ne_eqb (get_or s 1 0) 52 c, ne_eqb (get_or s 1 0) 51 d, ne_eqb (get_or s 1 0) 50 e, ne_eqb (get_or s 1 0) 55 f))

  -- the finish family: a call and an async differ in the first character
  pub see_async : get_or s 1 0 ≡ 50 → get_or s 0 0 ≡ 49 → then_some (is_made 49 s) (Async (plainly (part s 2 4))) ≡ glanced (read_line_of Finishes s n)
  see_async at first = see_made Finishes s n h 50 at 49 0x12 refl Async (λ x. refl) (λ x. refl) (λ e. rw (e, first) refl)

  pub see_passed : get_or s 1 0 ≡ 50 → (get_or s 0 0 ≡ 49 → ⊥) → then_some (is_made 48 s) (Call (plainly (part s 2 4))) ≡ glanced (read_line_of Finishes s n)
  see_passed at first = see_made Finishes s n h 50 at 48 2 refl Call (λ x. refl) (λ x. refl) (λ e. simp (e, ne_eqb (get_or s 0 0) 49 first))

  pub see_finish : get_or s 1 0 ≡ 51 → then_some (is_bare 49 s) Finish ≡ glanced (read_line_of Finishes s n)
  see_finish at = see_bare Finishes s n h 51 at 49 0x13 refl Finish refl refl (λ e. e)

  -- any other kind
  pub see_rest : (get_or s 1 0 ≡ 54 → ⊥) → (get_or s 1 0 ≡ 53 → ⊥) → (get_or s 1 0 ≡ 51 → ⊥) → (get_or s 1 0 ≡ 50 → ⊥) → (get_or s 1 0 ≡ 55 → ⊥) → None ≡ glanced (read_line_of Finishes s n)
  see_rest a b c d e = unseen Finishes s n (simp (ne_eqb (get_or s 1 0) 54 a, ne_eqb (get_or s 1 0) 53 b, ne_eqb (get_or s 1 0) 51 c, ne_eqb (get_or s 1 0) 50 d, ne_eqb (get_or s 1 0) 55 e, and-false))

-- a frame that is seen is seen as itself
seen-frame : (i f : Frame) → seen_of i ≡ Some f → (i ≡ f) × (seen_of f ≡ Some f)
seen-frame (Site s p) f e = absurd (let z : ◌≡◌ {A = ℕ} 0 1 = cc in omega arith)
seen-frame (Call s) f e = (cc, cc)
seen-frame (Spawn s) f e = (cc, cc)
seen-frame Sync f e = (cc, cc)
seen-frame Return f e = (cc, cc)
seen-frame (Cost v) f e = (cc, cc)
seen-frame (Instructions v) f e = (cc, cc)
seen-frame (Async s) f e = (cc, cc)
seen-frame Finish f e = (cc, cc)

-- what is seen is what the line reads as, and no site line
pub seen-line : (r : Read) (f : Frame) → glanced r ≡ Some f → (n : ℕ) × ((r ≡ says n f) × (seen_of f ≡ Some f))
seen-line (Err r) f e = absurd (let z : ◌≡◌ {A = ℕ} 0 1 = cc in omega arith)
seen-line (Ok x) f e = let q = seen-frame x.frame f e in (x.number, (ap (λ (y : Frame). says x.number y) q.0, q.1))
