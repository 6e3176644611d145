-- Keys of places: narrow places are the same exactly when their keys are, so a lookup among the keys finds a place
-- already declared.
use mathlib.Core.Path.{◌≡◌, refl, sym, ◌∙◌, ap}
use mathlib.Core.Bool.{Bool, true, false, ◌&&◌, ◌||◌}
use mathlib.Core.List.{List, [], ◌∷◌, ◌++◌, append-nil}
use Prim.Native.Nat.{ℕ, zero, suc, ◌+◌, ◌<◌}
use native.Mathlib.Omega.{arith}
use lib.ListN.{length, take, set, length-map, length-set}
use lib.Seq.{take-suc-set}
use lib.Dec.{eqb, ltb}
use borrow.Author.Tests.{ltb-true, eqb-true, eqb-false, eq-eqb, ne_eqb}
use Rattle.std.specs.Prelude.{Some}
use Rattle.std.specs.List.{list_any}
use Rattle.line.specs.declared.Place.{Place}
use Rattle.line.specs.Family.{Family}
use Rattle.line.specs.declared.Frame.{Frame}
use Rattle.line.specs.declared.Frame.TheVariants.{Site}
use Rattle.line.specs.Table.{table_of, fields_of}
use Rattle.line.specs.Read.{line_at, read_at_of, says}
use Rattle.line.specs.Write.{narrow, is_frame}
use Rattle.line.specs.Seeing.{seen_of}
use Rattle.line.proofs.RoundTrip.{read_write_of}
use Rattle.trace.specs.Shape.{if_site, has, sites}
use Rattle.trace.specs.Refusals.{same_place, placed, place_again}
use Rattle.trace.proofs.Basics.{clash, both, neither}
use Rattle.trace.proofs.Cases.{by-site, other, either_way, both_ways}
use Rattle.trace.proofs.Sites.{sites-append}
use Rattle.admit.specs.Step.{key, tag, tags_of, seen, kept}

-- a line that is seen at a glance declares no place
pub none_seen : (ks : List ℕ) (n : ℕ) (f : Frame) → seen_of f ≡ Some f → (seen ks n f ≡ false) × (kept ks n f ≡ ks)
none_seen ks n f e =
    by-site (λ g. seen_of g ≡ Some g → (seen ks n g ≡ false) × (kept ks n g ≡ ks)) (λ s p e. clash (cc))
    (λ g o e. (other (λ s p. has (key p) (take n ks)) false g o, other (λ s p. set ks n (key p)) ks g o)) f e

-- ── the lookup ──

-- whether any is the one looked for
pub has-any : (x : ℕ) (ks : List ℕ) → list_any (λ y. eqb y x) ks ≡ has x ks
has-any x [] = refl
has-any x (y ∷ ks) = rw (flip (eqb y x) refl, has-any x ks) refl
  where
    flip : (b : Bool) → eqb y x ≡ b → eqb x y ≡ eqb y x
    flip true e = eq-eqb x y (sym (eqb-true y x e)) ∙ sym e
    flip false e = ne_eqb x y (λ q. eqb-false y x e (sym q)) ∙ sym e

-- ── the lookup by tags ──

-- a key among the keys has its tag among theirs: where the tag is not there, neither is the key
has-tag : (k : ℕ) (ks : List ℕ) → has (tag k) (tags_of ks) ≡ false → has k ks ≡ false
has-tag k [] e = refl
has-tag k (x ∷ ks) e =
    let n = neither (eqb (tag k) (tag x)) (has (tag k) (tags_of ks)) e in
    rw (ne_eqb k x (λ q. eqb-false (tag k) (tag x) n.0 (ap tag q)), has-tag k ks n.1)

-- taking the first, and storing one, go through the tags
take_tags : (n : ℕ) (ks : List ℕ) → take n (tags_of ks) ≡ tags_of (take n ks)
take_tags zero ks = refl
take_tags (suc n) [] = refl
take_tags (suc n) (x ∷ ks) = ap (λ (l : List ℕ). tag x ∷ l) (take_tags n ks)

set_tags : (ks : List ℕ) (n k : ℕ) → set (tags_of ks) n (tag k) ≡ tags_of (set ks n k)
set_tags [] n k = refl
set_tags (x ∷ ks) zero k = refl
set_tags (x ∷ ks) (suc n) k = ap (λ (l : List ℕ). tag x ∷ l) (set_tags ks n k)

-- ts are the tags of the keys ks
module _ (ks ts : List ℕ) (are : ts ≡ tags_of ks) where
  -- as many as keys
  pub tags_length : length ts ≡ length ks
  tags_length = ap length are ∙ length-map ks tag

  -- the first tags are those of the first keys
  pub tags_first : (n : ℕ) → take n ts ≡ tags_of (take n ks)
  tags_first n = ap (take n) are ∙ take_tags n ks

  -- with a key kept and its tag, they are still
  pub tags_kept : (n k t : ℕ) → t ≡ tag k → set ts n t ≡ tags_of (set ks n k)
  tags_kept n k t e = rw (are, e) (set_tags ks n k)

  -- a tag that is not among them is that of no key
  pub tag_missing : (k t : ℕ) → t ≡ tag k → has t ts ≡ false → has k ks ≡ false
  tag_missing k t e h = has-tag k ks (rw (← e, ← are) h)

-- ── keys and places ──

-- each number has room in its digits
pub record Narrow (p : Place) : Type 0 where
  pub file : p.file < 65536
  pub line : p.line < 4294967296
  pub column : p.column < 65536

pub key-file : (p q : Place) → Narrow p → Narrow q → key p ≡ key q → p.file ≡ q.file
key-file p q m n e = omega arith

pub key-line : (p q : Place) → Narrow p → Narrow q → key p ≡ key q → p.line ≡ q.line
key-line p q m n e = omega (arith, key-file p q m n e)

pub key-column : (p q : Place) → Narrow p → Narrow q → key p ≡ key q → p.column ≡ q.column
key-column p q m n e = omega (arith, key-file p q m n e, key-line p q m n e)

pub same_key : (p q : Place) → Narrow p → Narrow q → eqb (key p) (key q) ≡ same_place p q
same_key p q m n = go (eqb p.file q.file) (eqb p.line q.line) (eqb p.column q.column) refl refl refl
  where
    go : (a b c : Bool) → eqb p.file q.file ≡ a → eqb p.line q.line ≡ b → eqb p.column q.column ≡ c → eqb (key p) (key q) ≡ (a && b && c)
    go true true true ea eb ec = eq-eqb (key p) (key q) (omega (arith, eqb-true p.file q.file ea, eqb-true p.line q.line eb, eqb-true p.column q.column ec))
    go true true false ea eb ec = ne_eqb (key p) (key q) (λ e. eqb-false p.column q.column ec (key-column p q m n e))
    go true false c ea eb ec = ne_eqb (key p) (key q) (λ e. eqb-false p.line q.line eb (key-line p q m n e))
    go false b c ea eb ec = ne_eqb (key p) (key q) (λ e. eqb-false p.file q.file ea (key-file p q m n e))

-- ── the places of the site lines ──

abbrev pub NarrowSite : Frame → Type 0
NarrowSite f = (s : ℕ) (p : Place) → f ≡ Site s p → Narrow p

abbrev pub NarrowSites : List Frame → Type 0
NarrowSites [] = Unit {0}
NarrowSites (f ∷ t) = NarrowSite f × NarrowSites t

pub narrow_snoc : (t : List Frame) (f : Frame) → NarrowSites t → NarrowSite f → NarrowSites (t ++ f ∷ [])
narrow_snoc [] f h n = (n, tt)
narrow_snoc (e ∷ t) f h n = (h.0, narrow_snoc t f h.1 n)

-- a line that reads as a site has a narrow place
pub read_narrow : (g : Family) (s : List ℕ) (n k : ℕ) (f : Frame) → read_at_of g s n ≡ says k f → NarrowSite f
read_narrow g s n k f e i p q =
    let w = (both (narrow (fields_of (Site i p))) (is_frame (table_of g (fields_of (Site i p)))) (read_write_of g (line_at s n) n k (Site i p) (e ∙ ap (says k) q)).1).0 in
    let c = both (ltb 1 256 && ltb i 65536 && ltb p.line 4294967296 && ltb p.file 65536) (ltb p.column 65536) w in
    let f = both (ltb 1 256 && ltb i 65536 && ltb p.line 4294967296) (ltb p.file 65536) c.0 in
    let l = both (ltb 1 256 && ltb i 65536) (ltb p.line 4294967296) f.0 in
    record { file = ltb-true p.file 65536 f.1; line = ltb-true p.line 4294967296 l.1; column = ltb-true p.column 65536 c.1 }

-- their keys, in their order
abbrev pub keys_of : List Frame → List ℕ
keys_of [] = []
keys_of (f ∷ t) = if_site (λ s p. key p ∷ keys_of t) (keys_of t) f

pub keys_snoc : (t : List Frame) (f : Frame) → keys_of (t ++ f ∷ []) ≡ keys_of t ++ if_site (λ s p. key p ∷ []) [] f
keys_snoc [] f = refl
keys_snoc (e ∷ t) f =
    both_ways (λ (x y : List ℕ). x ≡ y ++ if_site (λ s p. key p ∷ []) [] f) e (λ s p. ap (λ (l : List ℕ). key p ∷ l) (keys_snoc t f)) (keys_snoc t f)

pub has-place : (p : Place) (t : List Frame) → Narrow p → NarrowSites t → has (key p) (keys_of t) ≡ placed p t
has-place p [] m n = refl
has-place p (f ∷ t) m n =
    by-site (λ g. NarrowSite g → has (key p) (keys_of (g ∷ t)) ≡ placed p (g ∷ t)) (λ s q w. rw (same_key p q m (w s q refl), has-place p t m n.1))
    (λ g o w.
    ap (has (key p)) (other (λ s q. key q ∷ keys_of t) (keys_of t) g o)
    ∙ has-place p t m n.1
    ∙ sym (other (λ s q. same_place p q || placed p t) (placed p t) g o))
    f n.0

-- ── the kept keys ──

-- the first of the keys are those of the places declared so far
module _ (ks : List ℕ) (before : List Frame) (are : take (sites before) ks ≡ keys_of before) where
  -- the lookup finds refusal 10
  pub seen-is : (f : Frame) → NarrowSites before → NarrowSite f → seen ks (sites before) f ≡ place_again before f
  seen-is f n m =
      by-site (λ g. NarrowSite g → seen ks (sites before) g ≡ place_again before g) (λ s p w. ap (has (key p)) are ∙ has-place p before (w s p refl) n)
      (λ g o w. other (λ s p. has (key p) (take (sites before) ks)) false g o ∙ sym (other (λ s p. placed p before) false g o)) f m

  -- the keys with a line's place kept are those of the places declared with it
  pub kept-is : (f : Frame) → sites before < length ks → take (sites (before ++ f ∷ [])) (kept ks (sites before) f) ≡ keys_of (before ++ f ∷ [])
  kept-is f l = ap (λ (k : ℕ). take k (kept ks (sites before) f)) (sites-append before (f ∷ [])) ∙ go f ∙ sym (keys_snoc before f)
    where
      same : take (sites before + 0) ks ≡ keys_of before ++ []
      same = let z : sites before + 0 ≡ sites before = omega arith in rw z (are ∙ sym (append-nil (keys_of before)))

      a-site : (s : ℕ) (p : Place) → take (sites before + 1) (set ks (sites before) (key p)) ≡ keys_of before ++ key p ∷ []
      a-site s p =
          let z : sites before + 1 ≡ suc (sites before) = omega arith in
          rw z (take-suc-set ks (sites before) (key p) l ∙ ap (λ (u : List ℕ). u ++ key p ∷ []) are)

      go : (f : Frame) → take (sites before + sites (f ∷ [])) (kept ks (sites before) f) ≡ keys_of before ++ if_site (λ s p. key p ∷ []) [] f
      go f =
          by-site (λ g. take (sites before + sites (g ∷ [])) (kept ks (sites before) g) ≡ keys_of before ++ if_site (λ s p. key p ∷ []) [] g) a-site
          (λ g o.
          ap (λ (n : ℕ). take (sites before + n) (kept ks (sites before) g)) (other (λ s p. 1) 0 g o)
          ∙ ap (take (sites before + 0)) (other (λ s p. set ks (sites before) (key p)) ks g o)
          ∙ same
          ∙ ap (λ (u : List ℕ). keys_of before ++ u) (sym (other (λ s p. key p ∷ []) [] g o)))
          f

  pub kept-length : (f : Frame) → length (kept ks (sites before) f) ≡ length ks
  kept-length f = either_way (λ (l : List ℕ). length l ≡ length ks) f (λ s p. length-set ks (sites before) (key p)) refl
