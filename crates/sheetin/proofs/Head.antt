-- Laws of the header's names as a table, in which each stands behind a comma. Assumes nothing.
use Prim.{Unit}
use Rattle.std.proofs.Common.{◌≡◌, ℕ, ◌≤◌, ◌<◌, List, [], ◌∷◌, ◌++◌, length, take, drop, sym, refl, ap, ◌∙◌, arith}
use mathlib.Core.List.{flat_map}
use lib.Seq.{take_at, drop_at}
use Rattle.sheet.specs.Text.{comma, row_name, column_names, follows}
use Rattle.sheet.specs.Found.{Found, none, found, then}
use Rattle.sheet.specs.Grammar.{before, ends_bare, line_end, name, next_name, next_names, header}
use Rattle.sheet.proofs.Names.{table}
use Rattle.sheet.proofs.Clear.{Stop, end, at, AllClear, before-stop, names-clear}

-- the names so far are there, and those that the rest of the table has are still to come, in the text w
pub record Heading (s w left : List ℕ) : Type 0 where
  pub names : List (List ℕ)
  pub clear : AllClear names
  pub is : left ≡ flat_map follows names
  pub same : next_names column_names s ≡ next_names names w

pub heading_none : (s left : List ℕ) → left ≡ flat_map follows column_names → Heading s s left
heading_none s left e = record { names = column_names; clear = names-clear.1; is = e; same = refl }

-- what stands behind a name in the table
stop-of : (ns : List (List ℕ)) → Stop (flat_map follows ns)
unfolding flat_map
stop-of [] = end
stop-of (n ∷ ns) = at comma (n ++ flat_map follows ns) refl refl

-- the next name of the table, where it goes on
record Next (s w left : List ℕ) (n : ℕ) : Type 0 where
  others : List (List ℕ)
  clear : AllClear others
  rest : drop n (drop 1 left) ≡ flat_map follows others
  same : next_names column_names s ≡ then (next_name (take n (drop 1 left)) w) (λ _ u. next_names others u)

next_of : {s w left : List ℕ} {n : ℕ} → Heading s w left → 1 ≤ length left → n ≡ before ends_bare (drop 1 left) → Next s w left n
unfolding flat_map
next_of {s} {w} {left} {n} r l e = go r.names r.clear r.is r.same
  where
    go : (ns : List (List ℕ)) → AllClear ns → left ≡ flat_map follows ns → next_names column_names s ≡ next_names ns w → Next s w left n
    go [] c k q = absurd (omega (arith, ap length k))
    go (m ∷ ns) c k q =
        record {
          others = ns;
          clear = c.1;
          rest = ap (drop n) behind ∙ drop_at m (flat_map follows ns) n (sym long);
          same = q ∙ sym (ap (λ (x : List ℕ). then (next_name x w) (λ _ u. next_names ns u)) (ap (take n) behind ∙ take_at m (flat_map follows ns) n (sym long)));
        }
      where
        behind : drop 1 left ≡ m ++ flat_map follows ns
        behind = ap (drop 1) k

        long : n ≡ length m
        long = e ∙ ap (before ends_bare) behind ∙ before-stop m (flat_map follows ns) c.0 (stop-of ns)

module _ {s w left : List ℕ} (r : Heading s w left) where
  module _ (l : 1 ≤ length left) {t m : List ℕ} {n : ℕ} (i : t ≡ drop 1 left) (e : n ≡ before ends_bare t) (b : m ≡ take n t) where
    next : Next s w left n
    next = next_of r l (e ∙ ap (before ends_bare) i)

    here : next_names column_names s ≡ then (next_name m w) (λ _ u. next_names next.others u)
    here = next.same ∙ ap (λ (x : List ℕ). then (next_name x w) (λ _ u. next_names next.others u)) (sym (b ∙ ap (take n) i))

    pub heading_no : none ≡ next_name m w → none ≡ next_names column_names s
    heading_no f = ap (λ (x : Found Unit). then x (λ _ u. next_names next.others u)) f ∙ sym here

    pub heading_more : {u o : List ℕ} → found tt u ≡ next_name m w → o ≡ drop n t → Heading s u o
    heading_more f d =
        record {
          names = next.others;
          clear = next.clear;
          is = d ∙ ap (drop n) i ∙ next.rest;
          same = here ∙ sym (ap (λ (x : Found Unit). then x (λ _ v. next_names next.others v)) f);
        }

  -- no names more: the line end is asked
  pub heading_end : length left < 1 → line_end w ≡ next_names column_names s
  unfolding flat_map
  heading_end l = go r.names r.is r.same
    where
      go : (ns : List (List ℕ)) → left ≡ flat_map follows ns → next_names column_names s ≡ next_names ns w → line_end w ≡ next_names column_names s
      go [] k q = sym q
      go (n ∷ ns) k q = absurd (omega (arith, ap length k))

-- the header by its first name
module _ (s m : List ℕ) (i : m ≡ row_name) where
  begins : then (name m s) (λ _ w. next_names column_names w) ≡ header s
  unfolding header
  begins = ap (λ (x : List ℕ). then (name x s) (λ _ w. next_names column_names w)) i

  pub header_no : none ≡ name m s → none ≡ header s
  header_no e = ap (λ (x : Found Unit). then x (λ _ w. next_names column_names w)) e ∙ begins

  pub header_yes : {u : List ℕ} → found tt u ≡ name m s → next_names column_names u ≡ header s
  header_yes e = ap (λ (x : Found Unit). then x (λ _ w. next_names column_names w)) e ∙ begins

-- the table of names begins with the first, and goes on with those of the columns
pub first-name : {n : ℕ} → n ≡ before ends_bare table → (take n table ≡ row_name) × (drop n table ≡ flat_map follows column_names)
unfolding flat_map
first-name e = (ap (λ (i : ℕ). take i table) e, ap (λ (i : ℕ). drop i table) e)
