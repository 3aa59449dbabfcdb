use Rattle.rdf_trig.proofs.Prelude.{◌≡◌, ◌+◌, drop, sum_by, frame_bytes}
use Rattle.rdf_trig.proofs.holding.frames_len.Given as goal

-- what is counted, and what the frames that are left have, are all bytes
abbrev pub invariant-loop-frame : goal.invariant-loop-frame
invariant-loop-frame g l = l.held + sum_by frame_bytes (drop l.frame-index l.frames) ≡ sum_by frame_bytes l.frames
