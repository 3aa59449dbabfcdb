-- The names that the files here cite most, passed on from one place. One that stands for several things is not among them.
pub use Rattle.rdf_terms.proofs.ShapesLemmas.{kind-front, live-front}
pub use Rattle.rdf_terms.proofs.ValueBytes.{high_byte_stands, value-bytes, utf8_bytes}
pub use Rattle.rdf_terms.specs.Classes.{Class, is_base, is_digit, one_of, is_turtle, within}
unfoldable pub use Rattle.rdf_terms.specs.Classes.{has}
pub use Rattle.rdf_terms.specs.Classes.Class.{the, digit, hex_digit, letter, letter_or_digit, iri_char, local_escape, escape_letter, plain_double, plain_single, long_double, long_single, pn_base, pn_u, pn_char}
pub use Rattle.rdf_terms.specs.Regex.{Regex, Matches, nullable, after, after_all, possible, longer}
pub use Rattle.rdf_terms.specs.Regex.Regex.{nothing, empty, ◌·◌, ◌∣◌, many, one}
pub use Rattle.rdf_terms.specs.Runs.{IsRun, PassBetween, is_comment_byte, goes_over, iri_byte, is_unescaped, is_name_byte, is_long_byte, is_short_byte, is_ascii_byte}
pub use Rattle.rdf_terms.specs.Shapes.{any_shape, first_kind, hex, word, any_case, fixed, Shape, or_else, uchar, shaped, plx, pn_local, sign, digits, exponent, Live, some, optional, echar, only_turtle, double_quote, single_quote, dot}
unfoldable pub use Rattle.rdf_terms.specs.Shapes.{shape, kind_of, is_live}
pub use Rattle.rdf_terms.specs.Values.{of_string, of_iri, outside, slash, Move, means, letter_move, go, value, string_value, inside}
unfoldable pub use Rattle.rdf_terms.specs.Values.{is_fit}
pub use Rattle.rdf_terms.specs.declared.kind.Dialect.{Dialect}
pub use Rattle.rdf_terms.specs.declared.kind.Dialect.TheVariants.{Lines, Turtle}
pub use Rattle.rdf_terms.specs.declared.kind.Kind.{Kind}
pub use Rattle.rdf_terms.specs.declared.kind.Kind.TheVariants.{IriRef, LabelNode, ShortString, LongString, LangTag, Carets, LineEnd, End, Integer, PnameLn, PnameNs, Decimal, A, Semicolon, Comma, OpenBracket, CloseBracket, OpenParen, CloseParen, OpenBrace, CloseBrace, AtPrefix, AtBase, True, False}
pub use Rattle.rdf_terms.specs.declared.reason.Reason.{Reason}
pub use Rattle.rdf_terms.specs.declared.reason.Reason.TheVariants.{BadUtf8, NoToken, BadEscape, TokenTooLong, DocumentTooLong, Memory, Ended, Sink}
pub use Rattle.rdf_terms.specs.declared.runs.Run.{Run}
pub use Rattle.rdf_tokens.specs.Blank.{comment_step, comment_after, is_bare, is_cut, is_hash}
pub use Rattle.rdf_tokens.specs.Count.{is_start}
pub use Rattle.rdf_tokens.specs.Escapes.{IsEchar, IsEscapeThen, IsIriUchar, FitsIn, FitsInString, FitsInIri, RestsInIri}
pub use Rattle.rdf_tokens.specs.Fixed.{Row, spellings, rows_of, fits, is_done, is_begun, kind_by, live_by}
unfoldable pub use Rattle.rdf_tokens.specs.Fixed.{kind_by_table, live_by_table}
pub use Rattle.rdf_tokens.specs.Front.{bytes_of, IsAt, in_bytes, longest_by, longer_front, Reached, kind_here, state_of, kind_by_states, open_state, begins, front_by, row_front, Rests, Stays, at_first}
pub use Rattle.rdf_tokens.specs.Good.{mark, good, first_place, tokens_at, tail_of, end_of}
unfoldable pub use Rattle.rdf_tokens.specs.Good.{tokens_of}
pub use Rattle.rdf_tokens.specs.Grammars.{MarkedItem, Viable, PassesNone, Rises, LanguageOf, IsDocumentOf, InFront, GoesOn, IsWhole, StopsAt, RefusesAt, RefusedIn, Refused, BeginsDue, IsReadToItsEnd, IsTooLong}
pub use Rattle.rdf_tokens.specs.Held.{Held, all_bytes, Holds}
pub use Rattle.rdf_tokens.specs.Laws.{NoEnd, IsBeginning, IsNext, StandsIn, text_at, IsLongest, HasNoFront, IsLongestIn, EndsFor, MoreBytesOnlyLengthen, GivenTokensAreABeginning, IsStop, NextTokenIsGiven, IsPlaceIn, TokensStandAtTheirPlaces, TokensHaveShapes, EndsWell, EndStandsLast, OpenTextIsPending, LongestIsFound, TokensAreLongest, IsOver, IsUnfit, OutcomesHaveReasons}
pub use Rattle.rdf_tokens.specs.Local.{BeginsLocal, LeadsIn, RestsInLocal, begins_three, begins_two, is_escape, is_hex_at, is_percent, letter_len}
pub use Rattle.rdf_tokens.specs.Look.{IsLook, CutsAt, chosen_by, decided_by, tail_after}
pub use Rattle.rdf_tokens.specs.Machine.{begin}
pub use Rattle.rdf_tokens.specs.Machines.{run, IsChars}
pub use Rattle.rdf_tokens.specs.Moves.{is_flat, BeginsChar, beyond, good_bytes, rest_of_bytes, is_broken, MovesBytes, tail_now, MayCome, moved, Stands, Moves, IsEndGiven, GivesBytes, is_settled, fault_place, grown, GivesWithColon, lengthened, IsGiven}
pub use Rattle.rdf_tokens.specs.NoNames.{is_prefix_byte, BeginsNoName, HasNoNames, Ends, ends_within}
pub use Rattle.rdf_tokens.specs.Over.{shaped_over, row_over, fixed_over, HasCome}
pub use Rattle.rdf_tokens.specs.Peek.{IsBare, IsPeeked, IsSeen, MayPeek, Sees, TakesSeen, is_local, one_space, local_kind}
pub use Rattle.rdf_tokens.specs.Quick.{stands_at, long_run, short_run, IsPrefix, ends_name, is_colon, is_last, is_name_end, RestsInLong, quote_byte, opens_with, stands_thrice, BeginsNumber, IsMantissa, after_sign, is_sign, is_point, is_exponent, is_integer_end, is_decimal_end, is_double_end, ends_integer, ends_number, begins_label, begins_label_name, has_quote, begins_string, is_empty_string, begins_iri, IsQuick, single, is_sought, is_named, is_a, is_dot, begins_number, begins_signed, are_carets, is_over, ends_local, IsLaterPart, IsTagTo, begins_directive, begins_tag, is_part_byte, ends_tag, is_tag_end, is_word}
pub use Rattle.rdf_tokens.specs.Scans.{is_end, HasScanned, Reads, most_bytes, Stops, StopsFor, token_of, GivesToken, IsOpen, SameScan, Waits, reading_by, unread_bytes, IsPlainName, PassesBlank, KnowsColon, SameButHeld, TakesBytes, most_unread, fitting, at_once}
pub use Rattle.rdf_tokens.specs.Sorts.{sort_by, is_mark}
unfoldable pub use Rattle.rdf_tokens.specs.Sorts.{wide_of}
pub use Rattle.rdf_tokens.specs.Spellings.{row_of}
pub use Rattle.rdf_tokens.specs.Strings.{IsFirst, IsHighChar, RestsInQuotes, begins_high}
pub use Rattle.rdf_tokens.specs.Text.{closes}
pub use Rattle.rdf_tokens.specs.Tokens.{Place, Tail, past, is_line_end, is_space, blank, is_empty, rest_of, go_on, longest, with_length, three_quotes, only_long, Token, Outcome, Reading, over, chosen, decided, by_tail, with_token, with_tokens, end_tokens, Step, stop_place}
unfoldable pub use Rattle.rdf_tokens.specs.Tokens.{tokens, read}
pub use Rattle.rdf_tokens.specs.Tokens.Outcome.{undecided, complete, token_too_long, bad_utf8, no_token, bad_escape}
pub use Rattle.rdf_tokens.specs.Tokens.Tail.{ended, broken}
pub use Rattle.rdf_tokens.specs.Unread.{Unread}
pub use Rattle.rdf_tokens.specs.Walk.{IsFit, IsFitFor, IsWalk, Walked, counted_bytes, counted_chars, walk_kept, AreCounted}
pub use Rattle.rdf_tokens.specs.declared.front.NoNames.{NoNames}
pub use Rattle.rdf_tokens.specs.declared.look.Look.TheVariants.{Stop}
pub use Rattle.rdf_tokens.specs.declared.states.machine.State.{State}
pub use Rattle.rdf_tokens.specs.declared.states.text.Quote.{Quote}
pub use Rattle.rdf_tokens.specs.declared.states.text.Quote.TheVariants.{Single}
pub use Rattle.rdf_tokens.specs.declared.states.wide.Wide.{Wide}
pub use Rattle.rdf_tokens.specs.declared.states.wide.Wide.TheVariants.{Letter, Mark, Other}
pub use Rattle.std.proofs.Common.{◌≡◌, ℕ, suc, ◌+◌, ◌<◌, ◌≤◌, Bool, true, false, cond, List, [], ◌∷◌, ◌++◌, ◌==◌, refl, sym, ap, ◌∙◌, subst, length, get_or, take, drop, arith, Option, Some, None, IsUtf8, encode_utf8, length-append, ⊎_elim, zero, ◌-◌, ◌&&◌, not, nat_lt, count_by, is_some, slice_index, length-drop, ◌↔◌, ◌||◌, inl, inr, map, ◌⊎◌, append_assoc, ◌/◌, ◌%◌, ◌≢◌, Err, Ok, nat_le, min, ◌*◌, add-one, ltb, w8, rules, ap₂, tests}
pub use Rattle.std.proofs.Math.Seq.{take-add, take-append-add, take-append_seam, take-suc, get_or-append_seam, drop-append-add, drop-length, take-length}
pub use Rattle.std.proofs.Math.Utf8.{scalars, encodes, scalar_cases}
unfoldable pub use Rattle.std.proofs.Math.Utf8.{encode}
pub use Rattle.std.proofs.lemmas.Bool.{cases_lt, true≢false, lt-ltb, and_parts, eqb-true, false≢true, ltb-true, and_from, or_cases, agree_below_at, cases_Bool, or_left, eq-eqb, le-ltb, cond-true, cond-false, cond_both, cases_eq, agree_below, not_from_false, or_parts, ltb-false, or_right, ne_eqb, false_from_ne_true, leb-true, le-leb, lt-leb, or_from}
pub use Rattle.std.proofs.lemmas.Bool.Decides.{nat_tests}
pub use Rattle.std.proofs.lemmas.List.{append-nil, drop_more, drop_all, take_more, nil_from_length, take_at, drop_at, take-append-drop, get_or-drop, get_or-take, length-take-le, take-append-le, take-take, drop-append-le, drop-take, drop-drop, take_all, get_or_append_left}
pub use Rattle.std.proofs.lemmas.List.Elements.{All-head, All-tail, All-nil, All-cons}
pub use Rattle.std.proofs.lemmas.List.Sums.{sum_by-append, sum_by-cons, count_by-le-length}
pub use Rattle.std.proofs.lemmas.Simd.{bitmask_splat, ones-mask_l, length-chunk}
pub use Rattle.std.proofs.lemmas.Str.{encode_ascii, inside_one, encodes-chars, length-encode, len_utf8_bounds, chars_past_char, IsUtf8-past_char, chars-nil, encodes-append, scalars-chars, chars-encodes, IsCharBoundary-from_take, is_utf8-from_IsUtf8, IsUtf8-from_is_utf8, utf8_valid_len_le, chars-append, IsUtf8-drop, IsUtf8-append, IsUtf8-encode, length-le-encodes, IsCharBoundary-start, IsCharBoundary-from_drop, chars-IsAscii, IsCharBoundary-after_ascii, IsCharBoundary-before_ascii, IsUtf8-from_ascii, IsUtf8-take, utf8_valid_len-IsUtf8, len_utf8_ascii, drop_past_char, char_from_byte, IsUtf8-nil, IsUtf8-string_bytes}
pub use Rattle.std.specs.Char.{len_utf8}
pub use Rattle.std.specs.List.{AllByRecursion, All, slice_get, starts_with}
pub use Rattle.std.specs.Prelude.{encode_utf8_all, slice_range, IfSome, codes}
pub use Rattle.std.specs.Str.{IsCharBoundary, IsAscii}
unfoldable pub use Rattle.std.specs.Str.{chars, is_utf8}
pub use Rattle.std.specs.Str.Lossy.{valid_len_up_to, second_byte_min, second_byte_max}
unfoldable pub use Rattle.std.specs.Str.Lossy.{utf8_valid_len, utf8_error_len}
pub use Rattle.std.specs.String.{string_bytes}
