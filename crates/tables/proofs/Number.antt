-- The numbers of a chain's table: of two chains one behind the other, of one that weighs nothing, and of one with a cost
-- more.
use mathlib.Core.Path.{◌≡◌, refl, ap, ap₂, ◌∙◌, sym, subst}
use mathlib.Core.Bool.{Bool, true, false, cond}
use mathlib.Core.Logic.{◌⊎◌, inl, inr}
use mathlib.Core.List.{List, [], ◌∷◌, ◌++◌}
use Prim.Native.Nat.{ℕ, ◌+◌, ◌*◌, ◌/◌, ◌%◌, ◌^◌, ◌≤◌, ◌<◌}
use native.Mathlib.Nat.{div-div-eq-div-mul}
use native.Mathlib.Decide.{dec_lt}
use native.Mathlib.Omega.{arith}
use lib.Bits.{bit_or, or_zero_r}
use lib.Dec.{eqb}
use borrow.Author.Tests.{eqb-true, eq-eqb, ne_eqb}
use Rattle.chain.specs.Plan.{CostLine, All, Worth, weight, choose}
use Rattle.chain.proofs.Laws.{pick-worth}
use Rattle.chain.proofs.Choose.{choose-cases}
use Rattle.trace.specs.Tree.{Body}
use Rattle.trace.specs.Fold.{cost_at, its_cycles, its_instructions, plan, chain_of, on_all, on_row}
use Rattle.trace.proofs.Recurrence.{Paid, plan_positive, chain-is-pick}
use Rattle.trace.proofs.Basics.{cond_le}
use Rattle.trace.proofs.OnChain.{row-append, row_le}
use Rattle.tables.specs.Walks.{used, side, counted, number, Idle}
use Rattle.tables.proofs.Bits.{or_assoc, idle_or, power_idle}

-- the word of two chains
used-append : (c d : List CostLine) → used (c ++ d) ≡ bit_or (used c) (used d)
used-append [] d = refl
used-append (x ∷ c) d =
    let b = cond (eqb x.value 0) 0 (2 ^ (x.row / 4)) in
    ap (bit_or b) (used-append c d) ∙ sym (or_assoc b (used c) (used d))

-- nothing, or v
none_le : (b : Bool) (v : ℕ) → cond b 0 v ≤ v
none_le true v = omega arith
none_le false v = omega arith

-- two sums that fit, by measure
pub side-fits : (i a b c d : ℕ) → a + c < 2 ^ 64 → b + d < 2 ^ 64 → side i a b + side i c d < 2 ^ 64
side-fits i a b c d h l = go (eqb (i % 2) 0)
  where
    go : (o : Bool) → cond o a b + cond o c d < 2 ^ 64
    go true = h
    go false = l

-- at most, by measure
pub side_le : (i a b c d : ℕ) → a ≤ c → b ≤ d → side i a b ≤ side i c d
side_le i a b c d h l = go (eqb (i % 2) 0)
  where
    go : (o : Bool) → cond o a b ≤ cond o c d
    go true = h
    go false = l

-- the first number of row s is of cycles, and the second of instructions
pub side-of : (i v j : ℕ) → side (i % 2) v j ≡ side i v j
side-of i v j = let e : i % 2 % 2 ≡ i % 2 = omega arith in ap (λ (k : ℕ). cond (eqb k 0) v j) e

pub side-even : (s v j : ℕ) → side (2 * s) v j ≡ v
side-even s v j = ap (λ (b : Bool). cond b v j) (eq-eqb (2 * s % 2) 0 (omega arith))

pub side_odd : (s v j : ℕ) → side (2 * s + 1) v j ≡ j
side_odd s v j = ap (λ (b : Bool). cond b v j) (ne_eqb ((2 * s + 1) % 2) 0 (λ e. omega arith))

-- of a chain that weighs nothing
used_light : (c : List CostLine) → weight c ≡ 0 → used c ≡ 0
used_light [] e = refl
used_light (x ∷ c) e =
    ap (λ (b : Bool). bit_or (cond b 0 (2 ^ (x.row / 4))) (used c)) (eq-eqb x.value 0 (omega arith)) ∙ used_light c (omega arith)

row_light : (i s : ℕ) (c : List CostLine) → weight c ≡ 0 → on_row (counted i) s c ≡ 0
row_light i s [] e = refl
row_light i s (x ∷ c) e =
    let z : counted i x ≡ 0 = ap (λ (b : Bool). cond b 0 (side i x.value x.instructions)) (eq-eqb x.value 0 (omega arith)) in
    omega (arith, row_light i s c (omega arith), cond_le (eqb x.row s) (counted i x))

-- a number whose row is not in the word has nothing of the chain
unused : (c : List CostLine) (i : ℕ) → Idle (used c) (i / 8) → on_row (counted i) (i / 2) c ≡ 0
unused [] i h = refl
unused (x ∷ c) i h =
    let b = cond (eqb x.value 0) 0 (2 ^ (x.row / 4)) in
    let z = idle_or b (used c) (i / 8) h in
    omega (arith, unused c i z.1, go (eqb x.row (i / 2)) refl (eqb x.value 0) z.0)
  where
    go : (a : Bool) → eqb x.row (i / 2) ≡ a → (v : Bool) → Idle (cond v 0 (2 ^ (x.row / 4))) (i / 8) → cond a (cond v 0 (side i x.value x.instructions)) 0 ≡ 0
    go false e v z = refl
    go true e true z = refl
    go true e false z =
        let q : x.row / 4 ≡ i / 8 = ap (λ (r : ℕ). r / 4) (eqb-true x.row (i / 2) e) ∙ div-div-eq-div-mul i 2 4 in
        absurd (power_idle (i / 8) (rw q at z))

-- what number i takes of a whole chain is at most what the chain comes to in its measure
counted_le : (i : ℕ) (c : List CostLine) → on_all (counted i) c ≤ side i (weight c) (on_all its_instructions c)
counted_le i c = go (eqb (i % 2) 0) c
  where
    go : (b : Bool) (c : List CostLine) → on_all (λ x. cond (eqb x.value 0) 0 (cond b x.value x.instructions)) c ≤ cond b (weight c) (on_all its_instructions c)
    go true [] = omega arith
    go false [] = omega arith
    go true (x ∷ c) = omega (arith, go true c, none_le (eqb x.value 0) x.value)
    go false (x ∷ c) = omega (arith, go false c, none_le (eqb x.value 0) x.instructions)

module _ (w : ℕ) where
  -- a row's number, and the word
  pub number-row : (c : List CostLine) (i : ℕ) → i < w → number w c i ≡ on_row (counted i) (i / 2) c
  number-row [] i h = refl
  number-row (x ∷ c) i h = ap (λ (b : Bool). cond b (used (x ∷ c)) (on_row (counted i) (i / 2) (x ∷ c))) (ne_eqb i w (λ e. omega arith))

  pub number_word : (c : List CostLine) → number w c w ≡ used c
  number_word [] = refl
  number_word (x ∷ c) = ap (λ (b : Bool). cond b (used (x ∷ c)) (on_row (counted w) (w / 2) (x ∷ c))) (eq-eqb w w refl)

  -- a chain with another behind it
  pub number-sum : (p x : List CostLine) (i : ℕ) → i < w → number w (p ++ x) i ≡ number w p i + number w x i
  number-sum p x i h = omega (arith, number-row (p ++ x) i h, number-row p i h, number-row x i h, row-append (counted i) (i / 2) p x)

  pub number_or : (p x : List CostLine) → number w (p ++ x) w ≡ bit_or (number w p w) (number w x w)
  number_or p x = number_word (p ++ x) ∙ used-append p x ∙ sym (ap₂ bit_or (number_word p) (number_word x))

  -- a row's number is at most what the chain comes to in its measure
  pub number_le : (c : List CostLine) (i : ℕ) → i < w → number w c i ≤ side i (weight c) (on_all its_instructions c)
  number_le c i h = omega (arith, number-row c i h, row_le (counted i) (i / 2) c, counted_le i c)

  -- the number of a row that is not in the word
  pub number-idle : (c : List CostLine) (i : ℕ) → i < w → Idle (number w c w) (i / 8) → number w c i ≡ 0
  number-idle c i h z = number-row c i h ∙ unused c i (rw (number_word c) at z)

  -- where i is a row or the word
  pub by_number : (P : ℕ → Type 0) → ((i : ℕ) → i < w → P i) → P w → (i : ℕ) → i ≤ w → P i
  by_number P rows word i h = go (dec_lt i w)
    where
      go : Dec (i < w) → P i
      go (yes l) = rows i l
      go (no l) = let e : i ≡ w = omega arith in rw e word

  -- a chain that weighs nothing
  pub number_light : (c : List CostLine) → weight c ≡ 0 → (i : ℕ) → i ≤ w → number w c i ≡ 0
  number_light c e = by_number (λ i. number w c i ≡ 0) (λ i l. number-row c i l ∙ row_light i (i / 2) c e) (number_word c ∙ used_light c e)

  -- nothing comes to the numbers where a chain that weighs nothing stands behind
  with_light : (p x : List CostLine) → weight x ≡ 0 → (i : ℕ) → i ≤ w → number w (p ++ x) i ≡ number w p i
  with_light p x e = by_number (λ i. number w (p ++ x) i ≡ number w p i) (λ i l. omega (arith, number-sum p x i l, number_light x e i (omega arith))) (number_or p x ∙ ap (bit_or (number w p w)) (number_light x e w (omega arith)) ∙ or_zero_r (number w p w))

  -- where no child is the longest, whichever of the two the join takes, the numbers are the continuation's
  pub number-choose : (p l c : List CostLine) → weight l ≡ 0 → (i : ℕ) → i ≤ w → number w (p ++ choose l c) i ≡ number w (p ++ c) i
  number-choose p l c e i h = go (choose-cases l c)
    where
      go : ((weight l < weight c) × (choose l c ≡ c)) ⊎ ((weight c ≤ weight l) × (choose l c ≡ l)) → number w (p ++ choose l c) i ≡ number w (p ++ c) i
      go (inl q) = ap (λ (x : List CostLine). number w (p ++ x) i) q.1
      go (inr q) = ap (λ (x : List CostLine). number w (p ++ x) i) q.1 ∙ with_light p l e i h ∙ sym (with_light p c (omega (arith, q.0)) i h)

  -- a cost of v cycles and j instructions in row s more
  pub row-spent : (c : List CostLine) (line s v j i : ℕ) → 1 ≤ v → i < w → number w (c ++ cost_at line s v j ∷ []) i ≡ number w c i + cond (eqb s (i / 2)) (side i v j) 0
  row-spent c line s v j i o h =
      let z : counted i (cost_at line s v j) ≡ side i v j = ap (λ (b : Bool). cond b 0 (side i v j)) (ne_eqb v 0 (λ e. omega arith)) in
      omega (arith, number-sum c (cost_at line s v j ∷ []) i h, number-row (cost_at line s v j ∷ []) i h, ap (λ (x : ℕ). cond (eqb s (i / 2)) x 0) z)

  pub word_spent : (c : List CostLine) (line s v j : ℕ) → 1 ≤ v → number w (c ++ cost_at line s v j ∷ []) w ≡ bit_or (number w c w) (2 ^ (s / 4))
  word_spent c line s v j h =
      number_or c (cost_at line s v j ∷ [])
      ∙ ap (bit_or (number w c w)) (number_word (cost_at line s v j ∷ []) ∙ or_zero_r (cond (eqb v 0) 0 (2 ^ (s / 4))) ∙ ap (λ (b : Bool). cond b 0 (2 ^ (s / 4))) (ne_eqb v 0 (λ e. omega arith)))

  -- where each cost weighs something, the two numbers of row s are what of the chain's cycles and of its instructions stands
  -- in the row
  both-rows : (m : CostLine → ℕ) (i s : ℕ) → ((x : CostLine) → side i x.value x.instructions ≡ m x) → i / 2 ≡ s → (c : List CostLine) → All Worth c → i < w → number w c i ≡ on_row m s c
  both-rows m i s is half c h l = number-row c i l ∙ ap (λ (r : ℕ). on_row (counted i) r c) half ∙ go c h
    where
      go : (c : List CostLine) → All Worth c → on_row (counted i) s c ≡ on_row m s c
      go [] h = refl
      go (x ∷ c) h =
          let e : counted i x ≡ m x = ap (λ (b : Bool). cond b 0 (side i x.value x.instructions)) (ne_eqb x.value 0 (λ z. omega (arith, h.0))) ∙ is x in
          omega (arith, go c h.1, ap (λ (y : ℕ). cond (eqb x.row s) y 0) e)

  pub number-cycles : (c : List CostLine) → All Worth c → (s : ℕ) → 2 * s < w → number w c (2 * s) ≡ on_row its_cycles s c
  number-cycles c h s l = both-rows its_cycles (2 * s) s (λ x. side-even s x.value x.instructions) (omega arith) c h l

  pub number-instructions : (c : List CostLine) → All Worth c → (s : ℕ) → 2 * s + 1 < w → number w c (2 * s + 1) ≡ on_row its_instructions s c
  number-instructions c h s l = both-rows its_instructions (2 * s + 1) s (λ x. side_odd s x.value x.instructions) (omega arith) c h l

-- each cost of a body's chain weighs something
pub chain-worth : (b : Body) (n s : ℕ) → Paid b → All Worth (chain_of n s b)
chain-worth b n s h = subst (All Worth) (sym (chain-is-pick b n s h)) (pick-worth (plan n s b) (plan_positive b n s h))
