-- The names that the files here cite most, passed on from one place. One that stands for several things is not among them.
pub use Rattle.itoa.proofs.Decimal.{decimal_four, length_four, decimal_two, length_one, length_two, decimal_pair, length_pair}
pub use Rattle.rdf_driver.proofs.PassingLemmas.{can_pass-parts}
pub use Rattle.rdf_driver.specs.Passing.{LeadsBack, can_pass, passed, IsReadOn}
pub use Rattle.rdf_driver.specs.Readers.{Driven, HasRead}
pub use Rattle.rdf_driver.specs.Words.{Lawful, Takes, Misses, GivesUp, KnowsNext}
pub use Rattle.rdf_iri.specs.Texts.{byte_len}
pub use Rattle.rdf_lines.specs.Accepting.{line_words, LineAt, all_bytes}
pub use Rattle.rdf_lines.specs.Canonical.{end_text, end_count, statement_text, ended_line, ended_lines, type_count, term_count, graph_count, quad_count, count, LabelFits, IsTaken, CanonicalLinesAreRead, PassesLines, without_crs, CanonicalLinesAreWritten}
pub use Rattle.rdf_lines.specs.Documents.{in_lines, Passes, Blamed}
pub use Rattle.rdf_lines.specs.Escaped.{is_clear, IriSpelled, StringSpelled, NamedIri, LabelSpelled, SubjectSpelled, Spaced, BlanksStand, GapStands, TagSpelled, TypeSpelled, TailSpelled, LiteralSpelled, TermSpelled, GraphSpelled, LineSpelled, PassesInto}
pub use Rattle.rdf_lines.specs.Forms.{prefix_chars, form_of}
pub use Rattle.rdf_lines.specs.Fronts.{Stands, IriStands, NameStands, BlankStands, StringStands, SubjectStands, PredicateStands, TailStands, ObjectStands, GraphStands, LineStands, LinesStand, AreLines, CharactersStand, EscapeStands}
pub use Rattle.rdf_lines.specs.GoodTrees.{name_bound, object_bound, graph_bound, GoodStatement, GoodDocument, GoodLine}
pub use Rattle.rdf_lines.specs.Laws.{ReadQuadsAreDue, DocumentsAreRead, RefusedIsNoDocument, TokensWithin, SubjectWithin, TermWithin, GraphWithin, IrisWithin, MarksNeverFall, TailWithin, TailShort, TermShort, GraphShort, WrittenTextReadsBack, WrittenTextIsRead, AsciiIsWritten, JoinedTextsReadBack, FormsAgreeOnAscii, ReadsBack, NamesStayApart, PrefixesKeepApart, NoPrefixIsNoChange, TokensSettleTheQuads, TokensSettleWhatIsDue, DueBeginsTheQuads, IsClosing, BeginningsAreCompleted, DocumentIsWritable, string_width, iri_width, WrittenDocumentIsRead}
pub use Rattle.rdf_lines.specs.Lines.{Name, Ref, Lab, Object, Named, WithType, WithTag, Statement, last, next, subject_of, term_of, documents, statement_tokens, name_tokens, object_tokens, graph_tokens, graph_fits, Line, Document, line_tokens, document_tokens, string_of, head_tokens, line_quads, document_quads, iri_passes, trees, IsDocument, any_iri}
pub use Rattle.rdf_lines.specs.Machine.{Begin, Finished, is_taken, Answer, goes, gives, refuses, accept, ran, go_on, run, AfterDot, with_quad, Mode, AfterSubject, AfterPredicate, AfterString, AfterObject, iri_refused, absolute, quad, Run, AfterCarets, AfterGraph, object_then, refused}
pub use Rattle.rdf_lines.specs.NodeNames.{SubjectHasAsciiLabel, TermHasAsciiLabel, GraphHasAsciiLabel, name_subject, name_term, name_graph, CanWriteSubject, CanWriteTerm, CanWriteGraph, prefix_subject, prefix_term, prefix_graph, name_node, rename_subject, rename_term}
pub use Rattle.rdf_lines.specs.NodePrefixes.{Form, prefix_node, line_in, unprefixed, IsNodePrefix, put_prefix, named, is_word_char}
pub use Rattle.rdf_lines.specs.Placing.{two_digits, IsShort, IsShortGraph, IsShortSubject, IsShortTerm, label_bytes, number_bytes, WrittenAt}
pub use Rattle.rdf_lines.specs.SplitLines.{IsDocumentWithin, split_lines, IsGoodLine, IsBadLine, AreGoodLines, put_byte, Sifts, DocumentsAreTheirLines, GoodLinesAreRead}
pub use Rattle.rdf_lines.specs.States.{gave, Does, Fails, Leaves, is_accepted, is_begin, Declines, mode_of, state_bytes, object_of, predicate_of, mode_at, answer}
pub use Rattle.rdf_lines.specs.Writing.{quad_text, uchar, written, escaped, iri_text, node_text, subject_text, string_text, type_text, tail_text, term_text, space, graph_text, Writable, HasAsciiLabel, HasAsciiLabels, rename_node, rename, text, CanWriteNode, CanWrite, line, OfSubject, OfTerm, OfGraph, AllNodes, map_subject, map_term, map_nodes, hex_character, hex_digits}
pub use Rattle.rdf_lines.specs.WrittenBytes.{IsNamed, node_bytes, subject_bytes, term_bytes, graph_bytes, line_bytes, string_bytes_of, tail_bytes, escaped_bytes, run_of, iris_bytes, usual, BeginsWith}
pub use Rattle.rdf_lines.specs.declared.form.Escapes.{Escapes}
pub use Rattle.rdf_lines.specs.declared.form.Escapes.TheVariants.{Ascii}
pub use Rattle.rdf_lines.specs.declared.form.LineEnding.{LineEnding}
pub use Rattle.rdf_lines.specs.declared.form.LineEnding.TheVariants.{Lf, CrLf}
pub use Rattle.rdf_lines.specs.declared.form.LineForm.{LineForm}
pub use Rattle.rdf_lines.specs.declared.form.LineForm.TheVariants.{NQuads, NTriples}
pub use Rattle.rdf_lines.specs.declared.form.Style.{Style}
pub use Rattle.rdf_lines.specs.declared.form.Style.TheVariants.{Kept, Tagged}
pub use Rattle.rdf_lines.specs.declared.rules.Rules.{Rules}
pub use Rattle.rdf_terms.proofs.Places.{Placed-as, Placed-then}
pub use Rattle.rdf_terms.proofs.RegexLemmas.{matches-after, matches-possible, matches-after_all}
pub use Rattle.rdf_terms.proofs.ShapesLemmas.{live-matches, form-matches, first_kind-matches, matches-first_kind, matches-live, matches-any}
pub use Rattle.rdf_terms.proofs.SpelledLemmas.{label_in, tag_in, string_short}
pub use Rattle.rdf_terms.proofs.UsedCharacters.{uses, all_used, not_used, clean, matches-clean}
pub use Rattle.rdf_terms.specs.Classes.{is_letter, is_digit, is_u, Class}
pub use Rattle.rdf_terms.specs.Classes.Class.{iri_char, the, hex_digit, plain_double, escape_letter, digit, pn_u, pn_char}
pub use Rattle.rdf_terms.specs.Pieces.{Inside, of_string, of_iri, IsRow, letters, IsPiece, IsNumberEscape, Means, hex_value, hex_number, MayMean}
pub use Rattle.rdf_terms.specs.Placing.{Placed}
pub use Rattle.rdf_terms.specs.Regex.{Matches, Regex, after, possible, after_all}
pub use Rattle.rdf_terms.specs.Regex.Regex.{many, nothing}
pub use Rattle.rdf_terms.specs.Runs.{IsRun, is_short_byte, goes_over, is_ascii_byte, is_ascii_quote_byte, iri_byte, is_name_byte}
pub use Rattle.rdf_terms.specs.Shapes.{tag_name, any_shape, kinds, echar, hex, label_name, Shape, first_kind, dot, optional, fixed, shaped}
unfoldable pub use Rattle.rdf_terms.specs.Shapes.{is_live, shape, kind_of}
pub use Rattle.rdf_terms.specs.Terms.{Quad, has_scheme, Node, Label, Anon, Cell, Lang, Typed, Subject, Blank, Term, Resource, Literal, xsd_string, IsTag, IsTail, IsTerm, IsQuad, IsSubject, IsGraph, IsIri, IsLabel, all_have, IsNode}
pub use Rattle.rdf_terms.specs.Values.{iri_value, string_value, EscapeState, outside, slash, Move, leads, means, fails, letter_move, digit_move, move, go, value, inside}
unfoldable pub use Rattle.rdf_terms.specs.Values.{is_fit}
pub use Rattle.rdf_terms.specs.Views.{node_of, tail_by, subject_by, term_by, iri_chars, iris_quad, node_by}
pub use Rattle.rdf_terms.specs.declared.kind.Dialect.TheVariants.{Lines}
pub use Rattle.rdf_terms.specs.declared.kind.Kind.{Kind}
pub use Rattle.rdf_terms.specs.declared.kind.Kind.TheVariants.{Dot, End, IriRef, LineEnd, LabelNode, ShortString, LangTag, Carets}
pub use Rattle.rdf_terms.specs.declared.reason.Reason.{Reason}
pub use Rattle.rdf_terms.specs.declared.reason.Reason.TheVariants.{Unexpected, RelativeIri, IriTooLong, Memory, Sink}
pub use Rattle.rdf_tokens.proofs.GoodLemmas.{good_front, encode_two, encode_three, encode_four, encode_one}
pub use Rattle.rdf_tokens.proofs.TokensLemmas.{shorter, at_stop, at_token, step-more, step_token, rest_more, more_token, none_longer, tokens-step}
pub use Rattle.rdf_tokens.specs.Good.{first_place, good, tail_of, mark, has_byte_order_mark, most_bytes}
unfoldable pub use Rattle.rdf_tokens.specs.Good.{tokens_of}
pub use Rattle.rdf_tokens.specs.Grammars.{reading_of, IsReadToItsEnd, Marked, unmarked, counted, Viable, PassesNone, items_below, Due, Rises, IsDocumentOf, IsWithin, GoesOn, Refused, Language, CompletedWith, IsWhole}
pub use Rattle.rdf_tokens.specs.Leaves.{iri_of, leaf_of, Leaf}
pub use Rattle.rdf_tokens.specs.Scans.{is_end, IsToken, token_of, unread_bytes}
pub use Rattle.rdf_tokens.specs.Tokens.{Token, Place, past, with_tokens, Outcome, Reading, Step, rest_of, place_of, end_tokens, is_line_end, is_space, longest, over, is_empty, chosen, decided, by_tail, with_token, with_length}
unfoldable pub use Rattle.rdf_tokens.specs.Tokens.{tokens, step, read}
pub use Rattle.rdf_tokens.specs.Tokens.Outcome.{complete, token_too_long, no_token, undecided, bad_utf8, bad_escape}
pub use Rattle.rdf_tokens.specs.Tokens.Step.{stop}
pub use Rattle.rdf_tokens.specs.Tokens.Tail.{ended, broken, goes_on}
pub use Rattle.std.proofs.Common.{◌≡◌, ℕ, ◌≤◌, true, false, not, nat_lt, List, sym, ap, subst, Option, Some, None, Bool, cond, [], ◌∷◌, ◌++◌, inl, refl, ◌∙◌, ⊎_elim, arith, Result, Ok, Err, ◌<◌, ◌/◌, ◌%◌, zero, suc, ◌==◌, nat_le, length, take, drop, ◌+◌, length-append, append_assoc, ◌-◌, ◌*◌, ◌&&◌, T, eqb, get_or, inr, eq-zero-or-pos, eqb→eq, ◌⊎◌, zero-add, is_some, length-take, length-drop, ◌≢◌, lit<, lit≤, ◌||◌, ◌↔◌, take-add, ◌^◌, OnOk, OnErr, is_ok, if◌then◌else◌, rules, w8}
pub use Rattle.std.proofs.Math.Seq.{take-append_seam, take-length, get_or-append_seam, take-append-add, take-nil}
pub use Rattle.std.proofs.Math.Utf8.{encodes, scalars}
unfoldable pub use Rattle.std.proofs.Math.Utf8.{encode}
pub use Rattle.std.proofs.lemmas.Bool.{and_from, le-ltb, cond_both, cond-true, cases_Bool, cases_lt, cond-false, eqb-true, eq-eqb, lt-ltb, false_from_ne_true, false≢true, and_parts, or_cases, and_left, and_right, agree_below, agree_below_at, ne_eqb}
pub use Rattle.std.proofs.lemmas.Bool.Decides.{nat_tests}
pub use Rattle.std.proofs.lemmas.Fmt.{decimal_by_steps, decimal_injective, length-decimal-le, decimal_digit}
pub use Rattle.std.proofs.lemmas.List.{append-nil, length-take-le, take_all, take_at, drop_at, take-append-le, take-append-drop, get_or-take, drop_all, drop-append-le, append_cancel_left, take_more, drop-drop, take-take}
pub use Rattle.std.proofs.lemmas.List.Concat.{flat_map-append}
pub use Rattle.std.proofs.lemmas.List.Elements.{All-nil, All-cons, All-head, All-tail, filter-append}
pub use Rattle.std.proofs.lemmas.Result.{IfOk-from_err, on_err_weaker}
pub use Rattle.std.proofs.lemmas.Slice.Eq.{bytes_eq-Decides}
pub use Rattle.std.proofs.lemmas.Str.{encode_ascii, chars-encodes, IsUtf8-take, IsUtf8-drop, IsUtf8-append, IsUtf8-nil, IsCharBoundary-before_ascii, IsCharBoundary-after_ascii, chars-append, chars-nil, utf8_valid_len-IsUtf8, IsUtf8-had, encodes-append, encodes-chars, encodes_same, length-le-encodes, scalars-chars, IsCharBoundary-end, IsCharBoundary-from_take, chars_past_char, length-encode, len_utf8_bounds, IsUtf8-past_char, chars-IsAscii, IsUtf8-from_ascii, chars_from_encodes, IsUtf8-string_bytes}
pub use Rattle.std.specs.Fmt.{digits_onto, digit_glyph}
pub use Rattle.std.specs.List.{AllByRecursion, concat, slice_range, All}
pub use Rattle.std.specs.Prelude.{flat_map, option_map, encode_utf8_all, IfErr, IsErrAnd, decimal, bytes_eq, unwrap_or, map, IfSome, codes, IfOk, encode_utf8}
pub use Rattle.std.specs.Str.{IsUtf8, IsCharBoundary, IsAscii}
unfoldable pub use Rattle.std.specs.Str.{chars, is_utf8}
unfoldable pub use Rattle.std.specs.Str.Lossy.{utf8_valid_len, utf8_error_len}
pub use Rattle.std.specs.String.{string_bytes}
