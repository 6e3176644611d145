-- Which item a line is: its kind decides what stands at the front of the body.
use mathlib.Core.Path.{◌≡◌, refl, ap, ◌∙◌, sym, subst}
use mathlib.Core.Logic.{◌⊎◌, inl, inr}
use mathlib.Core.Bool.{Bool, cond}
use mathlib.Core.List.{List}
use Prim.Native.Nat.{ℕ, ◌+◌, ◌%◌, ◌≤◌}
use native.Mathlib.Omega.{arith}
use lib.Dec.{eqb}
use borrow.Author.Tests.{ne_eqb}
use Rattle.line.specs.Family.{Family, Base, Finishes}
use Rattle.line.specs.declared.Frame.{Frame}
use Rattle.line.specs.declared.Frame.TheVariants.{Sync, Return, Cost}
use Rattle.line.specs.Read.{read_at_of, says}
use Rattle.line.specs.At.{kind_at, both_at, value_at}
use Rattle.line.proofs.Items.{item_of}
use Rattle.trace.specs.Tree.{Way, call, spawn, async, pass, finish, opening, Note, site, carry, note_line, spend, sync, note, line_of, Body, done, leaf, child, WayOf, ahead}
use Rattle.weigh.specs.Weighed.{Weigh}
use Rattle.walk.specs.Stands.{Says, kind_of, value_of}
use Rattle.walk.specs.Weight.{instructions_at}
use Rattle.walk.specs.Reads.{Reads}
use Rattle.walk.specs.Item.{More}
use Rattle.walk.proofs.Stands.{reads_of}

-- what a body's first line is
abbrev pub first_of : Body → Frame
first_of done = Return
first_of (leaf l r) = line_of l
first_of (child v j g r) = opening v j

-- the second digit of the kind of a line that opens something is 2 or 3
opening-low : (v : Way) (j : ℕ) → (2 ≤ kind_of (opening v j) % 16) × (kind_of (opening v j) % 16 ≤ 3)
opening-low call j = (omega arith, omega arith)
opening-low spawn j = (omega arith, omega arith)
opening-low async j = (omega arith, omega arith)
opening-low pass j = (omega arith, omega arith)
opening-low finish j = (omega arith, omega arith)

-- what a line of a kind opens, by the family
abbrev way_by : Family → ℕ → Way
way_by Base k = cond (eqb k 2) call spawn
way_by Finishes k = cond (eqb k 2) pass (cond (eqb k 0x12) async finish)

way-is : (y : Family) (r : ℕ) (v : Way) (j : ℕ) → WayOf y r v j → v ≡ way_by y (kind_of (opening v j))
way-is Base r call j h = refl
way-is Base r spawn j h = refl
way-is Base r async j h = absurd h
way-is Base r pass j h = absurd h
way-is Base r finish j h = absurd h
way-is Finishes r call j h = absurd h
way-is Finishes r spawn j h = absurd h
way-is Finishes r async j h = refl
way-is Finishes r pass j h = refl
way-is Finishes r finish j h = refl

-- of which kind
module _ (y : Family) (w : Weigh) (s : List ℕ) (n row kind : ℕ) (says : Says y kind_of s n kind) where
  kind_is : (b : Body) → Reads y w s n row b → kind ≡ kind_of (first_of b)
  kind_is done h = says Return h
  kind_is (leaf (spend v) r) h = says (Cost h.0.0) h.0.1
  kind_is (leaf sync r) h = says Sync h.0
  kind_is (leaf (note x) r) h = says (note_line x) h.0
  kind_is (child v j g r) h = says (opening v j) h.0

  pub is-more : (b : Body) → Reads y w s n row b → (kind ≡ 5 → ⊥) → More b
  is-more done h k = absurd (k (kind_is done h))
  is-more (leaf l r) h k = tt
  is-more (child v j g r) h k = tt

  -- a line that weighs nothing and joins nothing is of kind 1 or 7
  no_note : (x : Note) → kind ≡ kind_of (note_line x) → (kind ≡ 1 → ⊥) → (kind ≡ 7 → ⊥) → ⊥
  no_note (site i p) e h1 h7 = h1 e
  no_note (carry v) e h1 h7 = h7 e

  pub is-done : (b : Body) → Reads y w s n row b → kind ≡ 5 → b ≡ done
  is-done done h k = refl
  is-done (leaf (spend v) r) h k = let e = kind_is (leaf (spend v) r) h in absurd (omega arith)
  is-done (leaf sync r) h k = let e = kind_is (leaf sync r) h in absurd (omega arith)
  is-done (leaf (note x) r) h k = absurd (no_note x (kind_is (leaf (note x) r) h) (λ z. omega arith) (λ z. omega arith))
  is-done (child v j g r) h k = let e = kind_is (child v j g r) h in absurd (omega (arith, opening-low v j))

  pub is-spend : (b : Body) → Reads y w s n row b → kind ≡ 6 → (v : ℕ) × (r : Body) × (b ≡ leaf (spend v) r)
  is-spend done h k = let e = kind_is done h in absurd (omega arith)
  is-spend (leaf (spend v) r) h k = (v, r, refl)
  is-spend (leaf sync r) h k = let e = kind_is (leaf sync r) h in absurd (omega arith)
  is-spend (leaf (note x) r) h k = absurd (no_note x (kind_is (leaf (note x) r) h) (λ z. omega arith) (λ z. omega arith))
  is-spend (child v j g r) h k = let e = kind_is (child v j g r) h in absurd (omega (arith, opening-low v j))

  pub is-sync : (b : Body) → Reads y w s n row b → kind ≡ 4 → (r : Body) × (b ≡ leaf sync r)
  is-sync done h k = let e = kind_is done h in absurd (omega arith)
  is-sync (leaf (spend v) r) h k = let e = kind_is (leaf (spend v) r) h in absurd (omega arith)
  is-sync (leaf sync r) h k = (r, refl)
  is-sync (leaf (note x) r) h k = absurd (no_note x (kind_is (leaf (note x) r) h) (λ z. omega arith) (λ z. omega arith))
  is-sync (child v j g r) h k = let e = kind_is (child v j g r) h in absurd (omega (arith, opening-low v j))

  no_kind : (kind ≡ 1) ⊎ (kind ≡ 7) → (kind ≡ 1 → ⊥) → (kind ≡ 7 → ⊥) → ⊥
  no_kind (inl e) h1 h7 = h1 e
  no_kind (inr e) h1 h7 = h7 e

  pub is-note : (b : Body) → Reads y w s n row b → (kind ≡ 1) ⊎ (kind ≡ 7) → (x : Note) × (r : Body) × (b ≡ leaf (note x) r)
  is-note done h k = let e = kind_is done h in absurd (no_kind k (λ z. omega arith) (λ z. omega arith))
  is-note (leaf (spend v) r) h k = let e = kind_is (leaf (spend v) r) h in absurd (no_kind k (λ z. omega arith) (λ z. omega arith))
  is-note (leaf sync r) h k = let e = kind_is (leaf sync r) h in absurd (no_kind k (λ z. omega arith) (λ z. omega arith))
  is-note (leaf (note x) r) h k = (x, r, refl)
  is-note (child v j g r) h k =
      let e = kind_is (child v j g r) h in
      absurd (no_kind k (λ z. omega (arith, opening-low v j)) (λ z. omega (arith, opening-low v j)))

  -- a line of another kind opens something
  is-child : (b : Body) → Reads y w s n row b → (kind ≡ 1 → ⊥) → (kind ≡ 4 → ⊥) → (kind ≡ 6 → ⊥) → (kind ≡ 7 → ⊥) → More b → (j : ℕ) × (g : Body) × (r : Body) × (b ≡ child (way_by y kind) j g r)
  is-child done h k1 k4 k6 k7 m = absurd m
  is-child (leaf (spend v) r) h k1 k4 k6 k7 m = absurd (k6 (kind_is (leaf (spend v) r) h))
  is-child (leaf sync r) h k1 k4 k6 k7 m = absurd (k4 (kind_is (leaf sync r) h))
  is-child (leaf (note x) r) h k1 k4 k6 k7 m = absurd (no_note x (kind_is (leaf (note x) r) h) k1 k7)
  is-child (child v j g r) h k1 k4 k6 k7 m = (j, g, r, ap (λ (x : Way). child x j g r) (way-is y row v j h.3 ∙ ap (way_by y) (sym (kind_is (child v j g r) h))))

  -- by its kind c
  is-opened : (c : ℕ) → 2 ≤ c % 16 → c % 16 ≤ 3 → (b : Body) → Reads y w s n row b → kind ≡ c → (j : ℕ) × (g : Body) × (r : Body) × (b ≡ child (way_by y c) j g r)
  is-opened c l m b h k =
      subst (λ (x : ℕ). (j : ℕ) × (g : Body) × (r : Body) × (b ≡ child (way_by y x) j g r)) k
      (is-child b h (λ z. omega arith) (λ z. omega arith) (λ z. omega arith) (λ z. omega arith) (is-more b h (λ z. omega arith)))

-- document 01's calls and spawns
module _ (w : Weigh) (s : List ℕ) (n row kind : ℕ) (says : Says Base kind_of s n kind) where
  pub is_call : (b : Body) → Reads Base w s n row b → kind ≡ 2 → (j : ℕ) × (g : Body) × (r : Body) × (b ≡ child call j g r)
  is_call = is-opened Base w s n row kind says 2 (omega arith) (omega arith)

  pub is_spawn : (b : Body) → Reads Base w s n row b → (kind ≡ 1 → ⊥) → (kind ≡ 2 → ⊥) → (kind ≡ 4 → ⊥) → (kind ≡ 6 → ⊥) → (kind ≡ 7 → ⊥) → More b → (j : ℕ) × (g : Body) × (r : Body) × (b ≡ child spawn j g r)
  is_spawn b h k1 k2 k4 k6 k7 m =
      subst (λ (t : Bool). (j : ℕ) × (g : Body) × (r : Body) × (b ≡ child (cond t call spawn) j g r)) (ne_eqb kind 2 k2)
      (is-child Base w s n row kind says b h k1 k4 k6 k7 m)

-- the other family's calls, asyncs and finishes
module _ (w : Weigh) (s : List ℕ) (n row kind : ℕ) (says : Says Finishes kind_of s n kind) where
  pub is_pass : (b : Body) → Reads Finishes w s n row b → kind ≡ 2 → (j : ℕ) × (g : Body) × (r : Body) × (b ≡ child pass j g r)
  is_pass = is-opened Finishes w s n row kind says 2 (omega arith) (omega arith)

  pub is-async : (b : Body) → Reads Finishes w s n row b → kind ≡ 0x12 → (j : ℕ) × (g : Body) × (r : Body) × (b ≡ child async j g r)
  is-async = is-opened Finishes w s n row kind says 0x12 (omega arith) (omega arith)

  -- no other kind is left
  pub finish-left : (b : Body) → Reads Finishes w s n row b → (kind ≡ 1 → ⊥) → (kind ≡ 2 → ⊥) → (kind ≡ 6 → ⊥) → (kind ≡ 7 → ⊥) → (kind ≡ 0x12 → ⊥) → More b → kind ≡ 0x13
  finish-left done h k1 k2 k6 k7 k12 m = absurd m
  finish-left (leaf (spend v) r) h k1 k2 k6 k7 k12 m = absurd (k6 (kind_is Finishes w s n row kind says (leaf (spend v) r) h))
  finish-left (leaf sync r) h k1 k2 k6 k7 k12 m = absurd (reads_of Finishes w s (leaf sync r) n row h).0
  finish-left (leaf (note x) r) h k1 k2 k6 k7 k12 m = absurd (no_note Finishes w s n row kind says x (kind_is Finishes w s n row kind says (leaf (note x) r) h) k1 k7)
  finish-left (child call j g r) h k1 k2 k6 k7 k12 m = absurd h.3
  finish-left (child spawn j g r) h k1 k2 k6 k7 k12 m = absurd h.3
  finish-left (child async j g r) h k1 k2 k6 k7 k12 m = absurd (k12 (kind_is Finishes w s n row kind says (child async j g r) h))
  finish-left (child pass j g r) h k1 k2 k6 k7 k12 m = absurd (k2 (kind_is Finishes w s n row kind says (child pass j g r) h))
  finish-left (child finish j g r) h k1 k2 k6 k7 k12 m = kind_is Finishes w s n row kind says (child finish j g r) h

  pub is-finish : (b : Body) → Reads Finishes w s n row b → kind ≡ 0x13 → (g : Body) × (r : Body) × (b ≡ child finish row g r)
  is-finish b h k =
      let e = is-opened Finishes w s n row kind says 0x13 (omega arith) (omega arith) b h k in
      (e.1, e.2, e.3 ∙ ap (λ (x : ℕ). child finish x e.1 e.2) (subst (Reads Finishes w s n row) e.3 h).3)

-- what a line carries for a cost before it: the second digit of a kind is 7 in kind 07 alone
module _ (y : Family) (w : Weigh) (s : List ℕ) (row : ℕ) where
  carried-by : (n : ℕ) (f : Frame) → read_at_of y s n ≡ says n f → cond (eqb (kind_at s n) 7) (value_at s n) 0 ≡ cond (eqb (kind_of f % 16) 7) (value_of f) 0
  carried-by n f h =
      let e = item_of y s n n f h in
      let second : kind_at s n ≡ both_at s n % 16 = omega arith in
      ap (λ (k : ℕ). cond (eqb k 7) (value_at s n) 0) (second ∙ ap (λ (k : ℕ). k % 16) e.0) ∙ ap (λ (v : ℕ). cond (eqb (kind_of f % 16) 7) v 0) e.2

  carried_first : (n : ℕ) (b : Body) → Reads y w s n row b → cond (eqb (kind_at s n) 7) (value_at s n) 0 ≡ ahead b
  carried_first n done h = carried-by n Return h
  carried_first n (leaf (spend v) r) h = carried-by n (Cost h.0.0) h.0.1
  carried_first n (leaf sync r) h = carried-by n Sync h.0
  carried_first n (leaf (note (site i p)) r) h = carried-by n (note_line (site i p)) h.0
  carried_first n (leaf (note (carry v)) r) h = carried-by n (note_line (carry v)) h.0
  carried_first n (child call j g r) h = carried-by n (opening call j) h.0
  carried_first n (child spawn j g r) h = carried-by n (opening spawn j) h.0
  carried_first n (child async j g r) h = carried-by n (opening async j) h.0
  carried_first n (child pass j g r) h = carried-by n (opening pass j) h.0
  carried_first n (child finish j g r) h = carried-by n (opening finish j) h.0

  -- LAW: the instructions of a cost line are what the rest of its body begins with
  pub instructions-ahead : (n : ℕ) (r : Body) → Reads y w s (n + 1) row r → instructions_at s n ≡ ahead r
  instructions-ahead n r h = carried_first (n + 1) r h
