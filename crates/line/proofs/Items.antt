-- Of an accepted line, the kind, the site and the value, each read by itself, are those of its frame.
-- Assumes nothing.
use Prim.Native.Nat.{ℕ, ◌%◌}
use mathlib.Core.List.{List}
use mathlib.Core.Path.{◌≡◌, refl, ap, ◌∙◌, sym}
use native.Mathlib.Omega.{arith}
use Rattle.line.specs.Family.{Family, Base}
use Rattle.line.specs.declared.Frame.{Frame}
use Rattle.line.specs.declared.Frame.TheVariants.{Site, Call, Spawn, Sync, Return, Cost, Instructions, Async, Finish}
use Rattle.line.specs.Table.{Fields, frame, table, fields_of}
use Rattle.line.specs.Read.{part, fields, line_at, read_at_of, read_at, says}
use Rattle.line.specs.At.{both_in, site_in, value_in, kind_at, both_at, site_at, value_at}
use Rattle.digits.proofs.Words.{plain-number}
use Rattle.line.proofs.At.{at_long}
use Rattle.line.proofs.Cases.{frames-of, frames}
use Rattle.line.specs.Write.{chars}
use Rattle.line.proofs.Small.{small-both}
use Rattle.line.proofs.RoundTrip.{table-fields-of, table-fields, good_parts, chars-back}

-- the kind in a frame's characters
both : (f : Frame) → both_in (chars (fields_of f)) ≡ (fields_of f).kind
both (Site s p) = refl
both (Call s) = refl
both (Spawn s) = refl
both Sync = refl
both Return = refl
both (Cost v) = refl
both (Instructions v) = refl
both (Async s) = refl
both Finish = refl

module _ (g : Family) (s : List ℕ) (n k : ℕ) (f : Frame) (e : read_at_of g s n ≡ says k f) where
  pub item_of : (both_at s n ≡ (fields_of f).kind) × (site_at s n ≡ (fields_of f).site) × (value_at s n ≡ (fields_of f).value)
  item_of =
      let (same, h, w, t) = frames-of g (line_at s n) n k f e in
      let x = sym (table-fields-of g (fields (line_at s n)) f t) in
      let p = good_parts (line_at s n) h w in
      let l = at_long s n h in (
        ap both_in l ∙ sym (small-both (line_at s n)) ∙ ap both_in (sym (ap chars (sym x) ∙ chars-back (line_at s n) h w)) ∙ both f,
        ap site_in l ∙ plain-number (part (line_at s n) 2 4) p.site ∙ ap (λ (y : Fields). y.site) x,
        ap value_in l ∙ plain-number (part (line_at s n) 6 8) p.value ∙ ap (λ (y : Fields). y.value) x,
      )

-- document 01's kinds are their second digits
low : (f g : Frame) → table (fields_of f) ≡ frame g → (fields_of f).kind % 16 ≡ (fields_of f).kind
low (Site s p) g t = refl
low (Call s) g t = refl
low (Spawn s) g t = refl
low Sync g t = refl
low Return g t = refl
low (Cost v) g t = refl
low (Instructions v) g t = refl
low (Async s) g t = absurd (let z : ◌≡◌ {A = ℕ} 0 1 = cc in omega arith)
low Finish g t = absurd (let z : ◌≡◌ {A = ℕ} 0 1 = cc in omega arith)

-- for document 01's family the second digit is enough
module _ (s : List ℕ) (n k : ℕ) (f : Frame) (e : read_at s n ≡ says k f) where
  pub item : (kind_at s n ≡ (fields_of f).kind) × (site_at s n ≡ (fields_of f).site) × (value_at s n ≡ (fields_of f).value)
  item =
      let (kind, site, value) = item_of Base s n k f e in
      let (same, h, w, t) = frames (line_at s n) n k f e in
      let second : kind_at s n ≡ both_at s n % 16 = omega arith in
      (second ∙ ap (λ (x : ℕ). x % 16) kind ∙ low f f (ap table (table-fields (fields (line_at s n)) f t) ∙ t), site, value)
