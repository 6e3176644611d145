-- Laws of a piece laid into room: no piece, one piece behind another, one character, a lent part that a piece fills,
-- and the figures of a number. Assumes nothing.
use Prim.Native.Nat.{ℕ, ◌+◌, ◌-◌, ◌≤◌, ◌<◌}
use mathlib.Core.List.{List, [], ◌∷◌, ◌++◌, append_assoc}
use mathlib.Core.Path.{◌≡◌, refl, ap, ◌∙◌, sym, subst}
use native.Mathlib.Nat.{add-sub_cancel_left, add_assoc, add-zero, zero-add, sub-zero}
use native.Mathlib.Numerals.{add-one}
use native.Mathlib.Omega.{arith}
use borrow.Rule.Slice.PartMut.{put_mid, mid_of, mid_len}
use lib.ListN.{length, take, drop, get_or, set, length-append, length-drop, take-append-drop, get_or-append}
use Rattle.std.proofs.lemmas.List.{drop-take}
use lib.Seq.{length-take-le, take-take, take_at, drop_at, drop-drop, set_split}
use Rattle.digits.specs.Decimal.{size_of, figures, decimal}
use Rattle.digits.proofs.Figures.{decimal-length}
use Rattle.report.specs.Room.{laid, Lays}

module _ (at : ℕ) (room : List ℕ) where
  pub laid-nothing : laid at [] room ≡ room
  unfolding laid
  laid-nothing = ap (λ (n : ℕ). take at room ++ drop n room) (add-zero at) ∙ take-append-drop at room

  module _ (piece : List ℕ) (fits : at + length piece ≤ length room) where
    front : length (take at room ++ piece) ≡ at + length piece
    front = length-append (take at room) piece ∙ ap (λ (n : ℕ). n + length piece) (length-take-le at room (omega arith))

    split : laid at piece room ≡ (take at room ++ piece) ++ drop (at + length piece) room
    unfolding laid
    split = sym (append_assoc (take at room) piece (drop (at + length piece) room))

    -- one piece right behind another is the two as one
    pub laid-behind : (next : List ℕ) → laid (at + length piece) next (laid at piece room) ≡ laid at (piece ++ next) room
    unfolding laid
    laid-behind next =
        ap (λ (l : List ℕ). take (at + length piece) l ++ (next ++ drop (at + length piece + length next) l)) split
        ∙ ap (λ (l : List ℕ). l ++ (next ++ drop (at + length piece + length next) (done ++ rest))) (take_at done rest (at + length piece) front)
        ∙ ap (λ (l : List ℕ). done ++ (next ++ l)) (sym (drop-drop (length next) (at + length piece) (done ++ rest)) ∙ ap (drop (length next)) (drop_at done rest (at + length piece) front) ∙ drop-drop (length next) (at + length piece) room)
        ∙ append_assoc (take at room) piece (next ++ drop (at + length piece + length next) room)
        ∙ ap (λ (l : List ℕ). take at room ++ l) (sym (append_assoc piece next (drop (at + length piece + length next) room)))
        ∙ ap (λ (n : ℕ). take at room ++ ((piece ++ next) ++ drop n room)) (add_assoc at (length piece) (length next) ∙ ap (λ (n : ℕ). at + n) (sym (length-append piece next)))
      where
        done : List ℕ
        done = take at room ++ piece

        rest : List ℕ
        rest = drop (at + length piece) room

    -- a part from `at` on that the piece fills comes back as the piece laid
    pub laid-part : (e : ℕ) → e ≡ at + length piece → put_mid at (e - at) room piece ≡ laid at piece room
    unfolding laid
    laid-part e h =
        ap (λ (k : ℕ). take at room ++ (piece ++ drop k (drop at room))) (ap (λ (n : ℕ). n - at) h ∙ add-sub_cancel_left at (length piece))
        ∙ ap (λ (l : List ℕ). take at room ++ (piece ++ l)) (drop-drop (length piece) at room)

    -- what stands before it is as it was
    pub laid-before : (i : ℕ) → i < at → get_or (laid at piece room) i 0 ≡ get_or room i 0
    unfolding laid
    laid-before i h =
        get_or-append (take at room) (piece ++ drop (at + length piece) room) 0 i (omega (arith, length-take-le at room (omega arith)))
        ∙ sym (get_or-append (take at room) (drop at room) 0 i (omega (arith, length-take-le at room (omega arith))))
        ∙ ap (λ (l : List ℕ). get_or l i 0) (take-append-drop at room)

  -- it stands there, whatever is laid behind it as one with it
  pub laid-there : (piece more : List ℕ) → at ≤ length room → take (length piece) (drop at (laid at (piece ++ more) room)) ≡ piece
  unfolding laid
  laid-there piece more h =
      ap (take (length piece)) (drop_at (take at room) ((piece ++ more) ++ rest) at (length-take-le at room h) ∙ append_assoc piece more rest)
      ∙ take_at piece (more ++ rest) (length piece) refl
    where
      rest : List ℕ
      rest = drop (at + length (piece ++ more)) room

  -- a stored character
  pub laid_one : (c : ℕ) → at < length room → set room at c ≡ laid at (c ∷ []) room
  unfolding laid
  laid_one c h = set_split room at c h ∙ ap (λ (n : ℕ). take at room ++ (c ∷ drop n room)) (sym (add-one at))

-- laid from the front on, as a writer of a whole text leaves it
pub laid-front : (piece room : List ℕ) → laid 0 piece room ≡ piece ++ drop (length piece) room
unfolding laid
laid-front piece room = ap (λ (n : ℕ). piece ++ drop n room) (zero-add (length piece))

-- nothing laid; one leaf behind another; one character
pub lays_nothing : (at : ℕ) (before : List ℕ) → Lays at [] before at before
lays_nothing at before = record { ends = sym (add-zero at); left = sym (laid-nothing at before) }

pub lays_next : (at : ℕ) (a b before : List ℕ) {e f : ℕ} {middle after : List ℕ} → at + length a ≤ length before → Lays at a before e middle → Lays e b middle f after → Lays at (a ++ b) before f after
lays_next at a b before {middle = middle} h x y =
    record {
      ends = y.ends ∙ ap (λ (k : ℕ). k + length b) x.ends ∙ add_assoc at (length a) (length b) ∙ ap (λ (k : ℕ). at + k) (sym (length-append a b));
      left =
          y.left
          ∙ ap (λ (k : ℕ). laid k b middle) x.ends
          ∙ ap (laid (at + length a) b) x.left
          ∙ laid-behind at before a h b;
    }

pub lays_one : (at c : ℕ) (before : List ℕ) → at < length before → Lays at (c ∷ []) before (at + 1) (set before at c)
lays_one at c before h = record { ends = refl; left = laid_one at before c h }

-- the same piece by another name
pub lays_as : (at : ℕ) {a b before : List ℕ} {e : ℕ} {after : List ℕ} → a ≡ b → Lays at a before e after → Lays at b before e after
lays_as at {before = before} {e = e} {after = after} h x = subst (λ (p : List ℕ). Lays at p before e after) h x

-- what stands at an earlier place, once more: the room parted at the place, and its back filled from its front
pub lays_again : (at from n : ℕ) (room : List ℕ) → from + n ≤ at → at + n ≤ length room → {front back piece : List ℕ}
    → front ≡ take at room → back ≡ drop at room → piece ≡ take (from + n - from) (drop from front)
    → Lays at (take n (drop from room)) room (at + n) (front ++ (piece ++ drop (n - 0) back))
unfolding laid
lays_again at from n room h l {front} {back} {piece} e f g =
    record {
      ends = ap (λ (k : ℕ). at + k) (sym long);
      left = cc (e, f, same, sub-zero n, drop-drop n at room, ap (λ (k : ℕ). drop (at + k) room) long);
    }
  where
    long : length (take n (drop from room)) ≡ n
    long = length-take-le n (drop from room) (omega (arith, length-drop from room))

    same : piece ≡ take n (drop from room)
    same =
        g
        ∙ ap (λ (k : ℕ). take k (drop from front)) (add-sub_cancel_left from n)
        ∙ ap (λ (s : List ℕ). take n (drop from s)) e
        ∙ ap (λ (k : ℕ). take n (drop from (take k room))) (let m : at ≡ from + (at - from) = omega arith in m)
        ∙ ap (take n) (drop-take from (at - from) room)
        ∙ take-take n (at - from) (drop from room) (omega arith)

-- a part of as many characters as x has figures, filled with its last figures, is the number laid there
pub decimal-laid : (x at n : ℕ) (out piece : List ℕ) → at + length (decimal x) ≤ length out → n ≡ size_of x → piece ≡ figures (length (mid_of at (at + n - at) out)) x
    → put_mid at (at + n - at) out piece ≡ laid at (decimal x) out
unfolding decimal
decimal-laid x at n out piece h e f =
    ap (put_mid at (at + n - at) out) g ∙ laid-part at out (decimal x) h (at + n) (omega (arith, decimal-length x))
  where
    g : piece ≡ decimal x
    g = f ∙ ap (λ (k : ℕ). figures k x) (mid_len at (at + n) out (omega (arith, decimal-length x)) ∙ add-sub_cancel_left at n ∙ e)
