-- Laws of a list that is made of pieces, one for each of some numbers, each as long as the others. Assumes nothing.
use Prim.Native.Nat.{ℕ, zero, suc, ◌+◌, ◌*◌, ◌-◌, ◌<◌}
use mathlib.Core.List.{List, [], ◌∷◌, ◌++◌, append_assoc, append-nil, flat_map}
use mathlib.Core.Path.{◌≡◌, ap, ◌∙◌, sym}
use native.Mathlib.Nat.{add_comm, add-sub_cancel_left, mul-suc, mul-zero}
use native.Mathlib.Omega.{arith}
use borrow.Rule.Slice.PartMut.{put_mid}
use lib.ListN.{length, take, drop, get_or, length-append}
use lib.Seq.{take_at, drop_at, drop-drop}
use Rattle.report.proofs.Parts.{behind}

module _ (f : ℕ → List ℕ) where
  -- the piece of one number more
  pub flat_map_last : (xs : List ℕ) (x : ℕ) → flat_map f (xs ++ x ∷ []) ≡ flat_map f xs ++ f x
  unfolding flat_map
  flat_map_last [] x = simp append-nil
  flat_map_last (y ∷ xs) x = ap (λ (r : List ℕ). f y ++ r) (flat_map_last xs x) ∙ sym (append_assoc (f y) (flat_map f xs) (f x))

  module _ (w : ℕ) where
    -- every piece is w long
    abbrev pub Even : List ℕ → Type 0
    Even xs = (k : ℕ) → k < length xs → length (f (get_or xs k 0)) ≡ w

    tail-even : (x : ℕ) (xs : List ℕ) → Even (x ∷ xs) → Even xs
    tail-even x xs e k h = e (suc k) (omega arith)

    -- w for each piece
    pub pieces-length : (xs : List ℕ) → Even xs → length (flat_map f xs) ≡ w * length xs
    unfolding flat_map
    pieces-length [] e = sym (mul-zero w)
    pieces-length (x ∷ xs) e =
        length-append (f x) (flat_map f xs)
        ∙ ap (λ (n : ℕ). n + length (flat_map f xs)) (e 0 (omega arith))
        ∙ ap (λ (n : ℕ). w + n) (pieces-length xs (tail-even x xs e))
        ∙ add_comm w (w * length xs)
        ∙ sym (mul-suc w (length xs))

    -- piece k is that of number k
    pub piece-at : (xs t : List ℕ) (k : ℕ) → Even xs → k < length xs → take w (drop (w * k) (flat_map f xs ++ t)) ≡ f (get_or xs k 0)
    unfolding flat_map
    piece-at [] t k e h = absurd (omega arith)
    piece-at (x ∷ xs) t zero e h =
        ap (λ (n : ℕ). take w (drop n ((f x ++ flat_map f xs) ++ t))) (mul-zero w)
        ∙ ap (λ (l : List ℕ). take w l) (append_assoc (f x) (flat_map f xs) t)
        ∙ take_at (f x) (flat_map f xs ++ t) w (e 0 (omega arith))
    piece-at (x ∷ xs) t (suc k) e h =
        ap (λ (n : ℕ). take w (drop n ((f x ++ flat_map f xs) ++ t))) (mul-suc w k ∙ add_comm (w * k) w)
        ∙ ap (λ (l : List ℕ). take w (drop (w + w * k) l)) (append_assoc (f x) (flat_map f xs) t)
        ∙ ap (λ (l : List ℕ). take w l) (sym (drop-drop (w * k) w (f x ++ (flat_map f xs ++ t))))
        ∙ ap (λ (l : List ℕ). take w (drop (w * k) l)) (drop_at (f x) (flat_map f xs ++ t) w (e 0 (omega arith)))
        ∙ piece-at xs t k (tail-even x xs e) (omega arith)

    -- a room that begins with the pieces of some numbers, and then with the piece of one number more: the rest is as
    -- it was before
    pub next-piece : (xs : List ℕ) (x at : ℕ) (room before piece : List ℕ) → length (flat_map f xs) ≡ at → room ≡ flat_map f xs ++ drop at before → piece ≡ f x
        → put_mid at (at + w - at) room piece ≡ flat_map f (xs ++ x ∷ []) ++ drop (at + w) before
    next-piece xs x at room before piece l e g =
        ap (λ (k : ℕ). put_mid at k room piece) (add-sub_cancel_left at w)
        ∙ ap (λ (r : List ℕ). put_mid at w r piece) e
        ∙ behind at w (flat_map f xs) (drop at before) piece l
        ∙ ap (λ (r : List ℕ). (flat_map f xs ++ piece) ++ r) (drop-drop w at before)
        ∙ ap (λ (p : List ℕ). (flat_map f xs ++ p) ++ drop (at + w) before) g
        ∙ ap (λ (r : List ℕ). r ++ drop (at + w) before) (sym (flat_map_last xs x))
