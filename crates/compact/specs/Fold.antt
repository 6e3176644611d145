-- For proofs and code, not for the reader of document 02: the lines that are kept, and the compacted trace, by one walk.
use Rattle.std.specs.Prelude.{Bool, true, false, not, cond, ◌||◌, List, [], ◌∷◌}
use Rattle.line.specs.declared.Frame.{Frame}
use Rattle.line.specs.declared.Frame.TheVariants.{Site, Call, Spawn, Sync, Return, Cost, Instructions, Async, Finish}
use Rattle.compact.specs.Compact.{merged}

-- Of each open invocation, innermost first: has a spawn stood directly in it since its start or last sync? What a line
-- does to them.
abbrev pub innermost : Bool → List Bool → List Bool
innermost b [] = []
innermost b (x ∷ o) = b ∷ o

abbrev pub since : Frame → List Bool → List Bool
since (Site s p) o = o
since (Call s) o = false ∷ o
since (Spawn s) o = false ∷ innermost true o
since Sync o = innermost false o
since Return [] = []
since Return (x ∷ o) = o
since (Cost v) o = o
since (Instructions v) o = o
since (Async s) o = false ∷ o
since Finish o = false ∷ o

-- the lines t begin with syncs and then a return
abbrev pub only_syncs : List Frame → Bool
only_syncs [] = false
only_syncs (Site s p ∷ t) = false
only_syncs (Call s ∷ t) = false
only_syncs (Spawn s ∷ t) = false
only_syncs (Sync ∷ t) = only_syncs t
only_syncs (Return ∷ t) = true
only_syncs (Cost v ∷ t) = false
only_syncs (Instructions v ∷ t) = false
only_syncs (Async s ∷ t) = false
only_syncs (Finish ∷ t) = false

-- a sync is to be dropped, before the lines t
abbrev pub idle_sync : List Bool → List Frame → Bool
idle_sync [] t = false
idle_sync (x ∷ o) t = not x || only_syncs t

abbrev pub idle : Frame → List Bool → List Frame → Bool
idle (Site s p) o t = false
idle (Call s) o t = false
idle (Spawn s) o t = false
idle Sync o t = idle_sync o t
idle Return o t = false
idle (Cost v) o t = false
idle (Instructions v) o t = false
idle (Async s) o t = false
idle Finish o t = false

abbrev pub kept_from : List Bool → List Frame → List Frame
kept_from o [] = []
kept_from o (f ∷ t) = cond (idle f o t) (kept_from (since f o) t) (f ∷ kept_from (since f o) t)

-- the root is open from the first line on
abbrev pub kept : List Frame → List Frame
kept t = kept_from (false ∷ []) t

abbrev pub compact : List Frame → List Frame
compact t = merged (kept t)
