-- Cases worked out by hand: a trace, and what compacting makes of it.
use Rattle.std.specs.Prelude.{List, [], ◌∷◌}
use Rattle.line.specs.declared.Frame.{Frame}
use Rattle.line.specs.declared.Frame.TheVariants.{Site, Call, Spawn, Sync, Return, Cost, Instructions}
use Rattle.compact.specs.Compact.{Compacted}

pub record Case : Type 0 where
  pub before : List Frame
  pub after : List Frame

abbrev pub case : List Frame → List Frame → Case
case b a = record { before = b; after = a }

abbrev pub cases : List Case
cases =
    -- a sync first in a body: sync, 5
    case (Sync ∷ Cost 5 ∷ Return ∷ [])
    (Cost 5 ∷ Return ∷ [])
    -- nothing to drop or merge: spawn 1 {4}, sync, 4
    ∷ case (Spawn 1 ∷ Cost 4 ∷ Return ∷ Sync ∷ Cost 4 ∷ Return ∷ [])
    (Spawn 1 ∷ Cost 4 ∷ Return ∷ Sync ∷ Cost 4 ∷ Return ∷ [])
    -- a sync after a sync: spawn 1 {4}, 2, sync, sync, 3
    ∷ case (Spawn 1 ∷ Cost 4 ∷ Return ∷ Cost 2 ∷ Sync ∷ Sync ∷ Cost 3 ∷ Return ∷ [])
    (Spawn 1 ∷ Cost 4 ∷ Return ∷ Cost 2 ∷ Sync ∷ Cost 3 ∷ Return ∷ [])
    -- only syncs before the return: both go: spawn 1 {4}, sync, sync
    ∷ case (Spawn 1 ∷ Cost 4 ∷ Return ∷ Sync ∷ Sync ∷ Return ∷ [])
    (Spawn 1 ∷ Cost 4 ∷ Return ∷ Return ∷ [])
    -- the second has no spawn since the first, and is before the return: spawn 1 {4}, sync, 5, sync
    ∷ case (Spawn 1 ∷ Cost 4 ∷ Return ∷ Sync ∷ Cost 5 ∷ Sync ∷ Return ∷ [])
    (Spawn 1 ∷ Cost 4 ∷ Return ∷ Sync ∷ Cost 5 ∷ Return ∷ [])
    -- costs with a dropped sync between are adjacent: 1, sync, 2
    ∷ case (Cost 1 ∷ Sync ∷ Cost 2 ∷ Return ∷ [])
    (Cost 3 ∷ Return ∷ [])
    -- costs with a sync that is kept between are not: spawn 1 {4}, 1, sync, 2, 3
    ∷ case (Spawn 1 ∷ Cost 4 ∷ Return ∷ Cost 1 ∷ Sync ∷ Cost 2 ∷ Cost 3 ∷ Return ∷ [])
    (Spawn 1 ∷ Cost 4 ∷ Return ∷ Cost 1 ∷ Sync ∷ Cost 5 ∷ Return ∷ [])
    -- nor are those around a call with an empty body: 1, call 1 {}, 2
    ∷ case (Cost 1 ∷ Call 1 ∷ Return ∷ Cost 2 ∷ Return ∷ [])
    (Cost 1 ∷ Call 1 ∷ Return ∷ Cost 2 ∷ Return ∷ [])
    -- a sum that does not fit starts a new line: 4294967295, 1
    ∷ case (Cost 4294967295 ∷ Cost 1 ∷ Return ∷ [])
    (Cost 4294967295 ∷ Cost 1 ∷ Return ∷ [])
    -- the first two do not fit, the last two do: 4294967295, 1, 2
    ∷ case (Cost 4294967295 ∷ Cost 1 ∷ Cost 2 ∷ Return ∷ [])
    (Cost 4294967295 ∷ Cost 3 ∷ Return ∷ [])
    -- from the left: the greatest value that fits, then the rest: 4294967290, 3, 2, 1, 1
    ∷ case (Cost 4294967290 ∷ Cost 3 ∷ Cost 2 ∷ Cost 1 ∷ Cost 1 ∷ Return ∷ [])
    (Cost 4294967295 ∷ Cost 2 ∷ Return ∷ [])
    -- a called function's sync has its own spawns in mind: spawn 1 {3}, call 2 {1, sync, 1}, sync, 1
    ∷ case (Spawn 1 ∷ Cost 3 ∷ Return ∷ Call 2 ∷ Cost 1 ∷ Sync ∷ Cost 1 ∷ Return ∷ Sync ∷ Cost 1 ∷ Return ∷ [])
    (Spawn 1 ∷ Cost 3 ∷ Return ∷ Call 2 ∷ Cost 2 ∷ Return ∷ Sync ∷ Cost 1 ∷ Return ∷ [])
    -- and so has its caller's, behind the call: call 1 {spawn 2 {7}, sync, sync}, sync, 2
    ∷ case (Call 1 ∷ Spawn 2 ∷ Cost 7 ∷ Return ∷ Sync ∷ Sync ∷ Return ∷ Sync ∷ Cost 2 ∷ Return ∷ [])
    (Call 1 ∷ Spawn 2 ∷ Cost 7 ∷ Return ∷ Return ∷ Cost 2 ∷ Return ∷ [])
    -- each spawn wants its own sync: spawn 1 {1}, sync, 2, sync, spawn 1 {sync, 3}, sync, 4, 5
    ∷ case (Spawn 1 ∷ Cost 1 ∷ Return ∷ Sync ∷ Cost 2 ∷ Sync ∷ Spawn 1 ∷ Sync ∷ Cost 3 ∷ Return ∷ Sync ∷ Cost 4 ∷ Cost 5 ∷ Return ∷ [])
    (Spawn 1 ∷ Cost 1 ∷ Return ∷ Sync ∷ Cost 2 ∷ Spawn 1 ∷ Cost 3 ∷ Return ∷ Sync ∷ Cost 9 ∷ Return ∷ [])
    -- sites stay: site 1, site 2, sync, spawn 1 {sync, spawn 2 {6, 1}, sync}, 2, sync, 1, sync
    ∷ case (Site 1 (record { file = 1; line = 10; column = 5 }) ∷ Site 2 (record { file = 1; line = 20; column = 9 }) ∷ Sync ∷ Spawn 1 ∷ Sync ∷ Spawn 2 ∷ Cost 6 ∷ Cost 1 ∷ Return ∷ Sync ∷ Return ∷ Cost 2 ∷ Sync ∷ Cost 1 ∷ Sync ∷ Return ∷ [])
    (Site 1 (record { file = 1; line = 10; column = 5 }) ∷ Site 2 (record { file = 1; line = 20; column = 9 }) ∷ Spawn 1 ∷ Spawn 2 ∷ Cost 7 ∷ Return ∷ Return ∷ Cost 2 ∷ Sync ∷ Cost 1 ∷ Return ∷ [])
    -- 02, request j, costs with a site line between are not adjacent, whatever syncs are dropped around it: 1, sync, site 1, sync, 2
    ∷ case (Cost 1 ∷ Sync ∷ Site 1 (record { file = 1; line = 10; column = 5 }) ∷ Sync ∷ Cost 2 ∷ Return ∷ [])
    (Cost 1 ∷ Site 1 (record { file = 1; line = 10; column = 5 }) ∷ Cost 2 ∷ Return ∷ [])
    -- a site line is no sync, so the sync before it stays: site 1, spawn 1 {4}, sync, site 2, sync
    ∷ case (Site 1 (record { file = 1; line = 10; column = 5 }) ∷ Spawn 1 ∷ Cost 4 ∷ Return ∷ Sync ∷ Site 2 (record { file = 1; line = 20; column = 9 }) ∷ Sync ∷ Return ∷ [])
    (Site 1 (record { file = 1; line = 10; column = 5 }) ∷ Spawn 1 ∷ Cost 4 ∷ Return ∷ Sync ∷ Site 2 (record { file = 1; line = 20; column = 9 }) ∷ Return ∷ [])
    -- 02, request l, a cost with its 07 line counts as one: 5 with 2, 6 with 4
    ∷ case (Cost 5 ∷ Instructions 2 ∷ Cost 6 ∷ Instructions 4 ∷ Return ∷ [])
    (Cost 11 ∷ Instructions 6 ∷ Return ∷ [])
    -- the cycles fit and the instructions do not: 1 with 4294967295, 1 with 1
    ∷ case (Cost 1 ∷ Instructions 4294967295 ∷ Cost 1 ∷ Instructions 1 ∷ Return ∷ [])
    (Cost 1 ∷ Instructions 4294967295 ∷ Cost 1 ∷ Instructions 1 ∷ Return ∷ [])
    -- and the other way round, with a last that fits both: 4294967295 with 1, 1 with 1, 2 with 3
    ∷ case (Cost 4294967295 ∷ Instructions 1 ∷ Cost 1 ∷ Instructions 1 ∷ Cost 2 ∷ Instructions 3 ∷ Return ∷ [])
    (Cost 4294967295 ∷ Instructions 1 ∷ Cost 3 ∷ Instructions 4 ∷ Return ∷ [])
    -- without a 07 line they are zero: 1 with 10, 2, 3 with 30
    ∷ case (Cost 1 ∷ Instructions 10 ∷ Cost 2 ∷ Cost 3 ∷ Instructions 30 ∷ Return ∷ [])
    (Cost 6 ∷ Instructions 40 ∷ Return ∷ [])
    -- a dropped sync between two of them: 1 with 2, sync, 3 with 4
    ∷ case (Cost 1 ∷ Instructions 2 ∷ Sync ∷ Cost 3 ∷ Instructions 4 ∷ Return ∷ [])
    (Cost 4 ∷ Instructions 6 ∷ Return ∷ [])
    -- a sync that is kept: spawn 1 {4 with 5}, 1 with 2, sync, 3 with 4
    ∷ case (Spawn 1 ∷ Cost 4 ∷ Instructions 5 ∷ Return ∷ Cost 1 ∷ Instructions 2 ∷ Sync ∷ Cost 3 ∷ Instructions 4 ∷ Return ∷ [])
    (Spawn 1 ∷ Cost 4 ∷ Instructions 5 ∷ Return ∷ Cost 1 ∷ Instructions 2 ∷ Sync ∷ Cost 3 ∷ Instructions 4 ∷ Return ∷ [])
    ∷ []

-- each is compacted as its case says, and compacting that once more changes nothing
abbrev pub AllHold : List Case → Type 0
AllHold [] = Unit {0}
AllHold (c ∷ l) = Compacted c.before c.after × Compacted c.after c.after × AllHold l
