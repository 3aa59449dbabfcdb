-- The names that the files here cite most, passed on from one place. One that stands for several things is not among them.
pub use Rattle.rdf_diagnostics.specs.BadEscapes.{ends_of, inside_by, HasBadEscape, IsBadEscape}
pub use Rattle.rdf_diagnostics.specs.Causes.{first, cause_of, row}
pub use Rattle.rdf_diagnostics.specs.EscapeWalks.{inside_of, stop_by, stop_from, begun_at, stand_of, stand_for, step_for, room, IsInRoom, IsStepInRoom}
pub use Rattle.rdf_diagnostics.specs.SightRuns.{IsOther, IsSeen, IsSeenOf, seen_for, Sees, SeesEnd, SeesPart, HasTaken, StandsFrom}
pub use Rattle.rdf_diagnostics.specs.Sights.{reading_from, HasNone, IsOpen, IsLongestOpen, LeavesOpen}
pub use Rattle.rdf_diagnostics.specs.Signs.{has_surrogate, is_surrogate, has_bad_escape}
pub use Rattle.rdf_diagnostics.specs.declared.sight.Seen.TheVariants.{Open, First, Nothing, Unfit, Other}
pub use Rattle.rdf_terms.specs.Values.{Inside, EscapeState, outside, slash, digits, Move, leads, means, fails, allowed, digit_move, hex_value, move, go, value}
unfoldable pub use Rattle.rdf_terms.specs.Values.{is_fit}
pub use Rattle.rdf_terms.specs.declared.kind.Dialect.{Dialect}
pub use Rattle.rdf_terms.specs.declared.kind.Dialect.TheVariants.{Lines, Turtle}
pub use Rattle.rdf_tokens.specs.Good.{first_place, tokens_at, good, mark, tail_of}
unfoldable pub use Rattle.rdf_tokens.specs.Good.{tokens_of}
pub use Rattle.rdf_tokens.specs.Scans.{HasScanned, IsWaiting, SameScan, TakesBytes, Gives, Stops, StopsFor, token_of}
pub use Rattle.rdf_tokens.specs.Tokens.{Outcome, Reading, Place, rest_of, step, Step, Tail, blank, tokens, past}
pub use Rattle.rdf_tokens.specs.Tokens.Outcome.{undecided, complete, token_too_long, bad_utf8, no_token, bad_escape}
pub use Rattle.std.proofs.Common.{◌≡◌, ℕ, zero, suc, ◌+◌, ◌-◌, ◌*◌, ◌<◌, Bool, true, false, cond, List, [], ◌∷◌, ◌++◌, ◌==◌, ◌⊎◌, inl, inr, Option, Some, None, is_some, option_map, refl, sym, ap, ◌∙◌, subst, ⊎_elim, append_assoc, arith, length, take, drop, get_or, length-append, encode_utf8, encode_utf8_all, codes, ◌≤◌, Ok, Err, ◌≢◌, ◌||◌, ap₂, map}
pub use Rattle.std.proofs.lemmas.Bool.{and_parts, and_from, or_cases, cond-true, cond-false, false≢true, eqb-true, ne_eqb, cases_lt}
pub use Rattle.std.proofs.lemmas.List.{append-nil, take_at, drop_at, get_or-drop, take-append-drop, drop_more, take_more, take-take, take_all, drop-take, length-take, length-take-le, take_rest}
pub use Rattle.std.proofs.lemmas.Str.{length-encode, encodes-append, IsUtf8-nil, IsUtf8-take, IsCharBoundary-from_take, chars-encodes, encode_ascii, utf8_valid_len_le, utf8_valid_len-IsUtf8, IsUtf8-append, IsUtf8-past_char, IsCharBoundary-at_seam, chars-append, encodes-chars, scalars-chars}
pub use Rattle.std.specs.Char.{len_utf8}
pub use Rattle.std.specs.Option.{MatchOption, unwrap_or}
pub use Rattle.std.specs.Str.{chars, IsUtf8, IsCharBoundary}
pub use Rattle.std.specs.Str.Iter.{chars_rest}
