-- The names that the files here cite most, passed on from one place. One that stands for several things is not among them.
pub use Rattle.rdf_driver.specs.Readers.{Driven, FeedFails, Feeds, FinishFails, Finishes, HasRead, LeavesOff, piece_reading, StandsAt}
pub use Rattle.rdf_driver.specs.Words.{in_words, GivesUp, Lawful}
pub use Rattle.rdf_driver.specs.declared.summary.Summary.{Summary}
pub use Rattle.rdf_lines.specs.Accepting.{line_words, LineAt}
pub use Rattle.rdf_lines.specs.Canonical.{written_as, IsTaken, PassesLines, without_crs}
pub use Rattle.rdf_lines.specs.Documents.{in_lines}
pub use Rattle.rdf_lines.specs.SplitLines.{put_byte, split_lines, IsBadLine, IsGoodLine, Sifts, IsDocumentWithin}
pub use Rattle.rdf_lines.specs.Writing.{CanWrite, Writable}
pub use Rattle.rdf_lines.specs.declared.form.LineForm.{LineForm}
pub use Rattle.rdf_lines.specs.declared.form.Style.{Style}
pub use Rattle.rdf_lines.specs.declared.form.Style.TheVariants.{Tagged}
pub use Rattle.rdf_lines.specs.declared.rules.Rules.{Rules}
pub use Rattle.rdf_stream.specs.CheckRuns.{BeginsToRead, CheckEnds, CheckHalts, ChecksNoMore, HasChecked, IsChecking}
pub use Rattle.rdf_stream.specs.Checks.{CheckStops, IsRefusedFor, IsAccepted}
pub use Rattle.rdf_stream.specs.Converting.{HandedOver, HaltsFor, HasPut, IsConverting, IsPutting, RunEnds, RunHalts, IsConvertible, Reports, ReportsFault, ReportsWrite, Starts}
pub use Rattle.rdf_stream.specs.Converts.{Accepts, RefusesDocument, WritesDue, WritesSome, IsPrompt, StopsFor, IsConverted}
pub use Rattle.rdf_stream.specs.Devices.{HasGiven, AppendsFront, Grows, reading, Written}
pub use Rattle.rdf_stream.specs.ExpectedRuns.{Stands, Asks, AsksAt, AsksFor, Expects, RunExpects, StandsBefore, StandsFor}
pub use Rattle.rdf_stream.specs.ExplainTexts.{texts_of}
pub use Rattle.rdf_stream.specs.Explains.{between, expected_by, listed, is_graphic, only_said, words_for, said}
pub use Rattle.rdf_stream.specs.Faults.{IsOfDocument, IsRefusal, IsSentOn}
pub use Rattle.rdf_stream.specs.Jobs.{JobRead}
pub use Rattle.rdf_stream.specs.Kinds.{kind_of}
pub use Rattle.rdf_stream.specs.Languages.{AreLines, ConversionOf, lines_of, Conversion, conversion_by, conversion_of, tree_job, language_of, written_in}
pub use Rattle.rdf_stream.specs.LineOut.{Leaves, Moves, PutHalts, SameOut, Writes, OnlyGrows, LeavesBytes}
pub use Rattle.rdf_stream.specs.Opening.{ComesTo, IsNoted, HasNoted, Offers}
pub use Rattle.rdf_stream.specs.Outputs.{Able, Writer, conversion, lines_by, of_quads, output_of, Output, output, graph_of, line_by}
pub use Rattle.rdf_stream.specs.Parts.{IsAsciiText, HaltsWithin, MayPass}
pub use Rattle.rdf_stream.specs.Passes.{PassesText, RewritesText}
pub use Rattle.rdf_stream.specs.Pieces.{ReadStops, ReadsAll, SourceFails, TakenBefore, HaltsOn, HasBegun, StaysOn, TakesMore, ReadsEnd, at_end}
pub use Rattle.rdf_stream.specs.Places.{HandsOut, IsNear, IsOpenBracket, NearRead, TellsNear, column_after, is_feed, goes_on, last_of, line_after, next_column, reach, line_rest}
pub use Rattle.rdf_stream.specs.RunFaults.{fault_by}
pub use Rattle.rdf_stream.specs.Shows.{ShowsAll, dialect_of, showing_of, marked_from}
pub use Rattle.rdf_stream.specs.Sieves.{Counts, HasRoom, HasMarkBytes, HasNoMark, HasSifted, PutBadFails, PutGoodFails, PutsBad, PutsGood, PutsNone, SameSieve, SiftFails, first_after, job_of, place_past, start_of, Holds, IsEndedFront, IsSkipping, RefusesPiece, SiftFrontFails, SiftsFront, SkipEnds, SkipHalts, IsTried, EndsLines}
pub use Rattle.rdf_stream.specs.Skips.{IsAside, IsBadFor, comment_text, counted_up, fault_from, place_after, PutsAside, SkipStops, Skips, SkipsAll, SkipsEnded}
pub use Rattle.rdf_stream.specs.TokenWords.{ShowEnds, of_tokens, token_words, without_end}
pub use Rattle.rdf_stream.specs.Told.{told}
pub use Rattle.rdf_stream.specs.declared.fault.StreamFault.{StreamFault}
pub use Rattle.rdf_stream.specs.declared.form.Kind.TheVariants.{Line, Tree}
pub use Rattle.rdf_stream.specs.declared.line_out.LineOut.{LineOut}
pub use Rattle.rdf_stream.specs.declared.output.OutputView.{OutputView}
pub use Rattle.rdf_terms.specs.Terms.{Quad, Subject, IsGraph, IsIri, IsQuad, Blank, Iri, Literal, Resource, Term, has_scheme, IsSubject, IsTail, IsTerm, all_have, Node, Label, Anon, Cell, Tail, Lang, Typed, IsNode}
pub use Rattle.rdf_terms.specs.declared.kind.Dialect.{Dialect}
pub use Rattle.rdf_terms.specs.declared.reason.Reason.{Reason}
pub use Rattle.rdf_tokens.proofs.LanguageLemmas.{EndsAtBlame, refused_in_more, due_more, document_whole}
pub use Rattle.rdf_tokens.specs.Good.{tokens_of, end_of, good, has_byte_order_mark, first_place}
pub use Rattle.rdf_tokens.specs.Grammars.{GoesOn, Language, BeginsDue, Due, LanguageOf, PassesNone, RefusedIn, reading_of, items_below, IsTooLong, counted, MarkedItem, unmarked}
pub use Rattle.rdf_tokens.specs.Scans.{GivesToken, most_bytes, place_of, is_end, IsWaiting, left, token_of}
pub use Rattle.rdf_tokens.specs.Tokens.{Token, Place, is_line_end}
pub use Rattle.rdf_tokens.specs.declared.token.Fault.{Fault}
pub use Rattle.rdf_trig.specs.Accepting.{tree_words}
pub use Rattle.rdf_trig.specs.Language.{Chosen}
pub use Rattle.std.proofs.Common.{◌≡◌, ◌∙◌, ℕ, Bool, false, List, [], ◌∷◌, ◌++◌, take, drop, refl, sym, ap, subst, append_assoc, Option, Some, None, IfSome, ◌≤◌, ◌+◌, true, length, ⊎_elim, arith, length-append, ◌<◌, ◌⊎◌, ◌||◌, ◌&&◌, ◌==◌, cond, option_map, IfErr, OnOk, Result, Ok, Err, ◌-◌, codes, zero, suc, inr, not, get_or, length-take, IfOk, inl, ◌*◌, ltb, ◌↔◌, rules, ap₂, ◌^◌, nat_eq, slice_index_or}
pub use Rattle.std.proofs.KnownBytes.{Consumes-whole, Appends-nil, Consumes-nil, Appends-trans, Consumes-kept, Consumes-trans, Appends-kept, Keeps-refl}
pub use Rattle.std.proofs.Math.Seq.{take-add, take-length}
pub use Rattle.std.proofs.lemmas.Bool.{false≢true, and_parts, eqb-true, cond-true, cond-false, cond_both, cases_Bool, cases_lt, false_from_ne_true, le-ltb, lt-ltb}
pub use Rattle.std.proofs.lemmas.List.{take-append-drop, append-nil, map-id, drop-take, drop_all, take_all, drop-append-le, drop-drop, length-drop, length-take-le, take-append-le, drop_more, take_rest, nil_from_length, take_more}
pub use Rattle.std.proofs.lemmas.Result.{on_err_weaker, on_ok_weaker, IfOk-weaker}
pub use Rattle.std.proofs.lemmas.Str.{chars-nil, encodes-append, IsCharBoundary-from_take, chars-encodes, encodes-chars, IsUtf8-had, scalars-chars}
pub use Rattle.std.specs.Io.KnownBytes.{Appends, Consumes, IsAtEnd, Keeps}
pub use Rattle.std.specs.List.{AllByRecursion, concat, copy_within, list_all}
pub use Rattle.std.specs.Prelude.{encode_utf8_all, slice_index, OnErr, count_by, decimal}
pub use Rattle.std.specs.Result.{IsErrAnd}
pub use Rattle.std.specs.Str.{chars, IsUtf8, IsCharBoundary}
