-- What it says that two answers are the same. Assumes nothing.
use Prim.Native.Nat.{ℕ}
use mathlib.Core.Path.{◌≡◌, ap}
use Rattle.std.specs.Prelude.{Result, Err}
use Rattle.line.specs.declared.Frame.{Frame}
use Rattle.line.specs.declared.Line.{Line}
use Rattle.line.specs.declared.Refusal.{Refusal}
use Rattle.line.specs.Refusal.{refusal}
use Rattle.line.specs.Read.{says}

-- two refusals have one number and one line
pub same-refusal : {A : Type 0} {k l n m : ℕ} → ◌≡◌ {A = Result A Refusal} (Err (refusal k l)) (Err (refusal n m)) → (k ≡ n) × (l ≡ m)
same-refusal {k = k} {l = l} {n = n} {m = m} e =
    let r : refusal k l ≡ refusal n m = cc in
    (ap (λ (x : Refusal). x.number) r, ap (λ (x : Refusal). x.line) r)

-- two lines that read have one number and one frame
pub same-line : {k n : ℕ} {f i : Frame} → says k f ≡ says n i → (k ≡ n) × (f ≡ i)
same-line {k = k} {n = n} {f = f} {i = i} e =
    let r : ◌≡◌ {A = Line} (record { number = k; frame = f }) (record { number = n; frame = i }) = cc in
    (ap (λ (x : Line). x.number) r, ap (λ (x : Line). x.frame) r)
