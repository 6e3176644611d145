-- A trace written out reads as that trace, and is accepted where the trace keeps the rules; what has been read can be
-- written.
use mathlib.Core.Path.{◌≡◌, refl, sym, ◌∙◌, ap, subst}
use mathlib.Core.Bool.{Bool, true}
use mathlib.Core.List.{List, [], ◌∷◌, ◌++◌, append_assoc}
use Prim.Native.Nat.{ℕ, zero, suc, ◌*◌, ◌/◌, ◌%◌}
use native.Mathlib.Nat.{mul-div_right, mul-mod_right}
use native.Mathlib.Omega.{arith}
use lib.ListN.{length, take, length-append}
use lib.Seq.{take_at, drop_at}
use Rattle.line.specs.Family.{Base}
use Rattle.line.specs.declared.Frame.{Frame}
use Rattle.line.specs.Read.{read_line, line_at}
use Rattle.line.specs.Write.{writable, write_chars}
use Rattle.line.proofs.RoundTrip.{written, write_read, read_write}
use Rattle.trace.specs.Refusals.{line_count, reads_from, accepted, verdict}
use Rattle.trace.specs.Written.{text_of}
use Rattle.trace.proofs.Scan.{Reads, Fine, accepted-is}
use Rattle.trace.proofs.Accept.{accepts-accepted}

-- each line can be written: no field breaks the table
abbrev pub Writable : List Frame → Type 0
Writable [] = Unit {0}
Writable (f ∷ t) = (writable f ≡ true) × Writable t

-- ── its lines ──

wide : (f : Frame) → writable f ≡ true → length (write_chars f) ≡ 23
wide f w = ap length (written f w)

pub text-length : (t : List Frame) → Writable t → length (text_of t) ≡ 23 * length t
text-length [] w = refl
text-length (f ∷ t) w = omega (arith, length-append (write_chars f) (text_of t), wide f w.0, text-length t w.1)

pub text-lines : (t : List Frame) → Writable t → line_count (text_of t) ≡ length t
text-lines t w = ap (λ (n : ℕ). n / 23) (text-length t w) ∙ mul-div_right (length t) {m = 23} (omega arith)

-- the lines u, behind the characters p of n lines
reads-text : (p : List ℕ) (n : ℕ) (u : List Frame) → length p ≡ 23 * n → Writable u → Reads n (reads_from (p ++ text_of u) n (length u)) u
reads-text p n [] h w = tt
reads-text p n (f ∷ u) h w =
    let here : line_at (p ++ (write_chars f ++ text_of u)) n ≡ write_chars f = ap (take 23) (drop_at p (write_chars f ++ text_of u) (23 * n) h) ∙ take_at (write_chars f) (text_of u) 23 (wide f w.0) in
    let next : length (p ++ write_chars f) ≡ 23 * suc n = omega (arith, length-append p (write_chars f), wide f w.0) in (
      ap (λ (l : List ℕ). read_line l n) here ∙ write_read f w.0 n,
      subst (λ (s : List ℕ). Reads (suc n) (reads_from s (suc n) (length u)) u) (append_assoc p (write_chars f) (text_of u)) (reads-text (p ++ write_chars f) (suc n) u next w.1),
    )

-- LAW: a trace that keeps the rules, written out by the line writer, is accepted as that trace
pub text-accepted : (D M : ℕ) (t : List Frame) → Fine Base D M t → Writable t → verdict (text_of t) D M true ≡ accepted t
text-accepted D M t f w =
    accepts-accepted (text_of t) D M t
    (record {
      whole_lines = ap (λ (n : ℕ). n % 23) (text-length t w) ∙ mul-mod_right 23 (length t);
      reads_as = subst (λ (n : ℕ). Reads 0 (reads_from (text_of t) 0 n) t) (sym (text-lines t w)) (reads-text [] 0 t refl w);
      fine = f;
    })

-- ── what has been read ──

reads-writable : (s : List ℕ) (n count : ℕ) (u : List Frame) → Reads n (reads_from s n count) u → Writable u
reads-writable s n zero [] r = tt
reads-writable s n zero (f ∷ u) r = absurd r
reads-writable s n (suc count) [] r = absurd r
reads-writable s n (suc count) (f ∷ u) r = ((read_write (line_at s n) n n f r.0).1, reads-writable s (suc n) count u r.1)

-- LAW: every line of an accepted trace can be written
pub accepted-writable : (s : List ℕ) (D M : ℕ) (room : Bool) (t : List Frame) → verdict s D M room ≡ accepted t → Writable t
accepted-writable s D M room t e = reads-writable s 0 (line_count s) t (accepted-is s D M room t e).1.reads_as
