-- Which runtime wrote a trace: document 01's, which spawns and syncs, or the one of asyncs and finishes.
pub data Family : Type 0 where
  Base : Family
  Finishes : Family
