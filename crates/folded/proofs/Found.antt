-- A table of names with one row more. Assumes nothing.
use Rattle.std.proofs.Common.{ℕ, ◌+◌, ◌<◌, ◌≡◌, Bor, List, length, set, length-set, ap, ◌∙◌, get_or-set_other, get_or-set_same, below_more, arith}
use Rattle.folded.specs.Shows.{Found}

pub found-more : (name : ℕ → List ℕ) (names : List (Bor (List ℕ))) (row : ℕ) (x : Bor (List ℕ)) → row < length names → x.now ≡ name row → Found name row names
    → Found name (row + 1) (set names row x)
found-more name names row x l is h =
    below_more _ _
    (λ k less.
    let s = h k less in
    record {
      inside = omega (arith, s.inside, length-set names row x);
      is = λ none. ap (λ (y : Bor (List ℕ)). y.now) (get_or-set_other names row k x none (λ e. omega arith)) ∙ s.is none;
    })
    (record {
      inside = omega (arith, length-set names row x);
      is = λ none. ap (λ (y : Bor (List ℕ)). y.now) (get_or-set_same names row x none l) ∙ is;
    })
