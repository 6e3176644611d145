-- For proofs and engines, not for the reader of document 01: an open invocation's eight numbers in the scratch, where
-- they are kept while a child is open.
use Rattle.std.specs.Prelude.{ℕ, ◌≡◌, List, get_or, set}
use Rattle.walk.specs.Numbers.{opened}
use Rattle.marks.specs.declared.Zones.{Zones}

-- the scratch with the eight numbers at its front
abbrev pub park : Zones → List ℕ → List ℕ
park z t =
    set (set (set (set (set (set (set (set t 0 z.own.at) 1 z.own.work.0) 2 z.own.prefix.0) 3 z.own.longest.0) 4 z.own.since.0) 5 z.row) 6 z.child) 7 z.after

-- the invocation whose numbers are at its front
abbrev pub parked : List ℕ → Zones
parked t =
    record {
      own = opened (get_or t 0 0) (get_or t 1 0) (get_or t 2 0) (get_or t 3 0) (get_or t 4 0);
      row = get_or t 5 0;
      child = get_or t 6 0;
      after = get_or t 7 0;
    }

abbrev pub blank : Zones
blank = record { own = opened 0 0 0 0 0; row = 0; child = 0; after = 0 }

-- "The whole scratch is zero."
abbrev pub Zero : List ℕ → Type 0
Zero t = (j : ℕ) → get_or t j 0 ≡ 0
