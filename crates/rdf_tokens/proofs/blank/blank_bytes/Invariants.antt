use Rattle.rdf_tokens.proofs.Prelude.{◌≡◌, ◌+◌, ◌-◌, ◌≤◌, cond, drop, length, blank, comment_after}
use Rattle.rdf_tokens.proofs.blank.blank_bytes.Given as goal

abbrev pub invariant-parts : goal.invariant-parts
invariant-parts l = record {
  within : l.at ≤ length l.bytes;
  len : blank l.dialect l.in_comment l.bytes ≡ l.at + blank l.dialect l.comment (drop l.at l.bytes);
  comment : comment_after l.dialect l.in_comment l.bytes ≡ comment_after l.dialect l.comment (drop l.at l.bytes);
}

abbrev pub decreases-parts : goal.decreases-parts
decreases-parts l = length l.bytes - l.at + cond l.comment 0 1
