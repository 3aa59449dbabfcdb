-- The names that the files here cite most, passed on from one place. One that stands for several things is not among them.
pub use Rattle.rdf_terms.specs.Classes.{Class, one_of, is_digit, member, is_letter, is_base, within}
unfoldable pub use Rattle.rdf_terms.specs.Classes.{has}
pub use Rattle.rdf_terms.specs.Classes.Class.{the, digit, hex_digit, iri_char, local_escape, letter, letter_or_digit, pn_base, pn_u, pn_char, escape_letter, plain_double, plain_single, long_double, long_single}
pub use Rattle.rdf_terms.specs.Escapes.{run_of, stands, completes, value_after, with_front, IsPutUpTo, IsRead, Reads, digit_or_none, allowed_in, begins, may_mean, IsHexes, IsUchar, IsUcharOf, UcharAt, inside_of, IsPut}
pub use Rattle.rdf_terms.specs.Local.{local_stands, local_opens, without_backslashes}
pub use Rattle.rdf_terms.specs.Names.{begins_label, name_goes_on, Place, start, hyphen, part, after_tag, if_some, tag_goes_on, place_of}
pub use Rattle.rdf_terms.specs.Pieces.{IsPiece, IsLocalPiece, Means, hex_number, IsRow, MayMean, IsLetterEscape, IsNumberEscape, HasMeaning}
pub use Rattle.rdf_terms.specs.Regex.{Regex, Matches, nullable, after, after_all, longer, sample, possible}
pub use Rattle.rdf_terms.specs.Regex.Regex.{nothing, empty, one, ◌·◌, ◌∣◌, many}
pub use Rattle.rdf_terms.specs.Runs.{IsRun, PassBetween, goes_over, is_unescaped, iri_byte, IsRunIn, is_http, is_short_byte}
pub use Rattle.rdf_terms.specs.Shapes.{Shape, Live, kinds, any_shape, optional, pn_prefix, pn_local, some, dot, label_name, first_kind, tag_name}
unfoldable pub use Rattle.rdf_terms.specs.Shapes.{shape, kind_of, is_live}
pub use Rattle.rdf_terms.specs.Terms.{all_have, IsIri, IsLabel, IsTag, has_scheme, scheme_goes_on}
pub use Rattle.rdf_terms.specs.Values.{string_value, Inside, of_string, of_iri, EscapeState, outside, slash, digits, Move, leads, means, fails, allowed, letter_move, echar_move, digit_move, hex_value, go, move, value, iri_value, inside, local_from, local_value}
unfoldable pub use Rattle.rdf_terms.specs.Values.{is_fit}
pub use Rattle.rdf_terms.specs.declared.kind.Dialect.{Dialect}
pub use Rattle.rdf_terms.specs.declared.kind.Dialect.TheVariants.{Lines, Turtle}
pub use Rattle.rdf_terms.specs.declared.kind.Kind.{Kind}
pub use Rattle.rdf_terms.specs.declared.kind.Kind.TheVariants.{IriRef, LabelNode, ShortString, LongString, LangTag, Carets, Dot, LineEnd, Integer, Decimal, Double, True, False, A, AtPrefix, AtBase, Prefix, Base, Graph, PnameNs, PnameLn, Semicolon, Comma, OpenBracket, CloseBracket, OpenParen, CloseParen, OpenBrace, CloseBrace, End}
pub use Rattle.std.proofs.Common.{◌≡◌, ◌≤◌, ◌*◌, ℕ, List, [], ◌∷◌, ◌++◌, length, take, encode_utf8, refl, sym, ap, ◌∙◌, subst, arith, length-append, Bool, true, false, ◌&&◌, ◌||◌, ◌==◌, ◌+◌, ◌-◌, ⊎_elim, zero, suc, ◌<◌, Option, Some, None, is_some, option_map, append_assoc, length-drop, get_or, drop, cond, length-take-le, take-take, ◌≢◌, ◌⊎◌, inl, inr, unwrap_or, ◌/◌, ◌%◌, ◌^◌, map, replicate, bit_and, Fits, w8, ◌↔◌, take-add, take_at, drop_at, take_all, take-append-drop, ap₂, String, Result, Ok, Err, OnOk, rules, tests, leb}
pub use Rattle.std.proofs.Math.Seq.{take-append_seam, take-suc}
pub use Rattle.std.proofs.lemmas.Bool.{and_parts, or_cases, or_left, or_right, false≢true, not-true, eqb-true, leb-true, agree_below, agree_below_at, and_from, cases_Bool, cases_lt, cond-true, cond-false, ne_eqb, not-false, not_from_false, or_parts, eq-eqb, ltb-true, cond_both, ltb-false, eqb-false}
pub use Rattle.std.proofs.lemmas.Bool.Decides.{nat_tests}
pub use Rattle.std.proofs.lemmas.List.{append-nil, drop_more, drop_all, get_or-drop, drop-take, drop-drop, length-map, get_or-map, ext_get_or, append_cancel_right, length-take, take_rest, map-id}
pub use Rattle.std.proofs.lemmas.Simd.{zip2_splat, swz_l, SwzOk, SwzOk-from_below, length-swz_l, get_or-swz_l_below, Each1-get_or, map-map, mask_l-mod, zip2_of_maps, run_in_chunk_le, run_in_chunk_fails, run_in_chunk_stops, length-chunk, leading_from_mask_l, trailing_mask_l, take_more_put_chunk, length-put_chunk, zip2_splat_left, chunk-fits, splat_is_map}
pub use Rattle.std.proofs.lemmas.Str.{IsUtf8-past_char, IsUtf8-take, IsCharBoundary-at_seam, chars_past_char, chars-append, chars-nil, encodes-append, encodes-chars, len_utf8_bounds, length-encode, chars-encodes, chars_from_encodes, encode_ascii, byte_from_char, IsUtf8-between, IsUtf8-drop, IsCharBoundary-end, IsCharBoundary-before_ascii, IsCharBoundary-from_drop, inside_one, scalars-chars, IsUtf8-append, chars-IsAscii, IsUtf8-from_ascii, IsUtf8-string_bytes, IsUtf8-had}
pub use Rattle.std.specs.List.{concat, AllByRecursion, prefix_len, slice_get}
pub use Rattle.std.specs.Option.{IfSome, MatchOption, SomeIff}
pub use Rattle.std.specs.Prelude.{encode_utf8_all, not, nat_le, slice_range, nat_lt, codes, is_ok}
pub use Rattle.std.specs.Str.{IsUtf8, IsCharBoundary, IsAscii}
unfoldable pub use Rattle.std.specs.Str.{chars}
pub use Rattle.std.specs.Str.Iter.{chars_rest}
pub use Rattle.std.specs.String.{string_bytes}
pub use lib.Lanes.{Each1, zip2, chunk, mask_l, top}
pub use lib.Utf8.{scalars}
unfoldable pub use lib.Utf8.{encode}
