-- A line that is filled from the front, field after field, before line feeds, and the characters of its first fields.
-- Assumes nothing.
use Prim.Native.Nat.{ℕ, ◌+◌}
use mathlib.Core.List.{List, [], ◌∷◌, ◌++◌, append_assoc}
use mathlib.Core.Path.{◌≡◌, refl, ap, ◌∙◌, sym}
use native.Mathlib.Omega.{arith}
use borrow.Rule.Slice.PartMut.{put_mid, mid_of}
use lib.ListN.{length, take, drop, replicate, length-append, length-replicate, replicate-append-replicate}
use lib.Seq.{length-take-le, take_at, drop_at}
use Rattle.digits.specs.Digits.{digits}
use Rattle.digits.proofs.Writing.{digits-length}
use Rattle.line.specs.Table.{Fields}
use Rattle.line.specs.Write.{chars}

-- xs is what is done, a characters, and m line feeds
pub record Filled (xs done : List ℕ) (a m : ℕ) : Type 0 where
  pub is : xs ≡ done ++ replicate m 10
  pub size : length done ≡ a

pub empty : (m : ℕ) → Filled (replicate m 10) [] 0 m
empty m = record { is = refl; size = refl }

pub filled_length : {xs done : List ℕ} {a m : ℕ} → Filled xs done a m → length xs ≡ a + m
filled_length {done = done} {m = m} f =
    ap length f.is ∙ length-append done (replicate m 10) ∙ omega (arith, f.size, length-replicate {A = ℕ} m 10)

-- the next k characters are the digits of x
pub fill : {xs done : List ℕ} {a y : ℕ} (k m x : ℕ) (ys : List ℕ) → Filled xs done a (k + m) → y ≡ x → ys ≡ digits (length (mid_of a k xs)) y → Filled (put_mid a k xs ys) (done ++ digits k x) (a + k) m
fill {xs} {done} {a} k m x ys f same e = record { is = is; size = length-append done (digits k x) ∙ omega (arith, f.size, digits-length k x) }
  where
    rest : List ℕ
    rest = replicate (k + m) 10

    behind : drop a xs ≡ rest
    behind = ap (drop a) f.is ∙ drop_at done rest a f.size

    before : take a xs ≡ done
    before = ap (take a) f.is ∙ take_at done rest a f.size

    long : length (mid_of a k xs) ≡ k
    long = ap (λ (l : List ℕ). length (take k l)) behind ∙ length-take-le k rest (omega (arith, length-replicate {A = ℕ} (k + m) 10))

    left : drop k rest ≡ replicate m 10
    left = ap (drop k) (sym (replicate-append-replicate k m 10)) ∙ drop_at (replicate k 10) (replicate m 10) k (length-replicate {A = ℕ} k 10)

    is : put_mid a k xs ys ≡ (done ++ digits k x) ++ replicate m 10
    is =
        ap (λ (l : List ℕ). l ++ (ys ++ drop k (drop a xs))) before
        ∙ ap (λ (l : List ℕ). done ++ (ys ++ drop k l)) behind
        ∙ ap (λ (l : List ℕ). done ++ (ys ++ l)) left
        ∙ ap (λ (l : List ℕ). done ++ (l ++ replicate m 10)) (e ∙ ap (digits (length (mid_of a k xs))) same ∙ ap (λ (n : ℕ). digits n x) long)
        ∙ sym (append_assoc done (digits k x) (replicate m 10))

-- the characters of the kind; and the site; and the value; and the file; and the column
abbrev pub kinds : Fields → List ℕ
kinds x = digits 2 x.kind

abbrev pub sites : Fields → List ℕ
sites x = kinds x ++ digits 4 x.site

abbrev pub values : Fields → List ℕ
values x = sites x ++ digits 8 x.value

abbrev pub files : Fields → List ℕ
files x = values x ++ digits 4 x.file

abbrev pub columns : Fields → List ℕ
columns x = files x ++ digits 4 x.column

pub all-fields : (x : Fields) → columns x ++ 10 ∷ [] ≡ chars x
all-fields x = simp append_assoc
