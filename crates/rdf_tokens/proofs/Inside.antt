-- A scanner's fields, as its callers see them.
use Rattle.rdf_tokens.proofs.Prelude.{drop, chars, string_bytes, all_bytes, Place, Unread}
use Rattle.rdf_tokens.specs.declared.scanner.Scanner.TheInside.{Inside}

module _ {Z : Type 0} where
  -- with a place after the bytes that were taken
  abbrev pub unread_at : Inside Z → Place → Unread
  unread_at s p = record {
    dialect = s.dialect;
    limit = s.limit;
    place = record { offset = s.offset; line = s.line };
    begun = s.begun;
    comment = s.comment;
    text = chars (drop s.start (string_bytes s.text));
    pending = s.pending.items;
    broken = s.broken;
    taken = p;
    ended = s.ended;
    stopped = s.stopped;
    held = all_bytes (string_bytes s.text) s.pending.items;
  }

  abbrev pub unread_of : Inside Z → Unread
  unread_of s = unread_at s (record { offset = s.taken; line = s.last_line })
