-- For proofs and engines, not for the reader of documents 01 and 02: the span of a call of the finish family. Its items
-- go on in the chains of the finish around it, so that two numbers are kept for it beside them.
use Rattle.std.specs.Prelude.{ℕ, ◌+◌}
use Rattle.trace.specs.Tree.{Way, call, spawn, async, pass, finish, leaf_work, Body, done, leaf, child, larger, span_of}
use Rattle.walk.specs.declared.Open.{Open}

-- series: what comes before the next item in series, from the beginning of the finish or async around it on; far: how
-- far an async reaches that begins in it, from there on too
pub record Own : Type 0 where
  pub series : ℕ
  pub far : ℕ

-- where a call begins
abbrev pub begins : ℕ → Own
begins n = record { series = n; far = n }

-- in series so much further
abbrev pub further : ℕ → Own → Own
further v a = record { series = a.series + v; far = a.far }

-- an async reaches as far as x
abbrev pub reaches : ℕ → Own → Own
reaches x a = record { series = a.series; far = larger a.far x }

-- behind a child whose span is this and whose items make this of the numbers
abbrev pub child_own : Way → ℕ → (Own → Own) → Own → Own
child_own call span f a = further span a
child_own spawn span f a = reaches (a.series + span) a
child_own async span f a = reaches (a.series + span) a
child_own pass span f a = reaches (f (begins a.series)).far (record { series = (f (begins a.series)).series; far = a.far })
child_own finish span f a = further span a

-- behind the items of a body
abbrev pub own : Own → Body → Own
own a done = a
own a (leaf l r) = own (further (leaf_work l) a) r
own a (child w j g r) = own (child_own w (span_of g) (λ (x : Own). own x g) a) r

-- behind the first of them
abbrev pub own_item : Own → Body → Own
own_item a done = a
own_item a (leaf l r) = further (leaf_work l) a
own_item a (child w j g r) = child_own w (span_of g) (λ (x : Own). own x g) a

-- the heaviest of what is inside, from the beginning of the finish or async on
abbrev pub most : Own → ℕ
most a = larger a.far a.series

-- an invocation of these numbers that reaches so far
abbrev pub reaching : Open → ℕ → Own
reaching f far = record { series = f.prefix.0 + f.since.0; far = far }
