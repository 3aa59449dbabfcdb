-- The names that the files here cite most, passed on from one place. One that stands for several things is not among them.
pub use Rattle.rdf_driver.specs.Readers.{Driven, HasRead, Feeds, FeedFails, Finishes, FinishFails, SameLimits, Exactly, IsPlaced}
pub use Rattle.rdf_driver.specs.Words.{Lawful, Takes, GivesUp, Blames, Misses, KnowsNext, Words, in_words, KeepsLimits}
pub use Rattle.rdf_iri.proofs.ResolvedText.{byte_len-chars}
pub use Rattle.rdf_iri.proofs.TextsLemmas.{before-from, cut_suffix, equal-true, equal-self, equal-from}
pub use Rattle.rdf_iri.specs.Limits.{Sizes, InRange}
pub use Rattle.rdf_iri.specs.Resolve.{Resolves, based}
unfoldable pub use Rattle.rdf_iri.specs.Resolve.{resolved}
pub use Rattle.rdf_iri.specs.Scope.{InForce, bound_to, Binds, most_bytes_held, bytes_held, HasRoom, ResolvesHere, UnresolvedHere, IsBased, IsBound, NotBound, ExpandsHere, NotExpanded, base_bytes, binding_bytes, BaseFits}
pub use Rattle.rdf_iri.specs.Texts.{equal, byte_len, before, from, Lacks}
pub use Rattle.rdf_terms.proofs.LocalLemmas.{local-means, local-next, value_is}
pub use Rattle.rdf_terms.proofs.TermsLemmas.{IsIri-had, IsTag-had, IsLabel-had}
pub use Rattle.rdf_terms.specs.Classes.{Class, member, one_of}
pub use Rattle.rdf_terms.specs.Classes.Class.{iri_char, the, digit, hex_digit, local_escape, pn_u, pn_char}
pub use Rattle.rdf_terms.specs.Known.{known_chars}
pub use Rattle.rdf_terms.specs.Local.{without_backslashes}
pub use Rattle.rdf_terms.specs.Runs.{is_unescaped, is_name_byte}
pub use Rattle.rdf_terms.specs.Shapes.{Shape, pn_local, pn_prefix, plx, optional, tag_name, word}
unfoldable pub use Rattle.rdf_terms.specs.Shapes.{shape, kind_of, is_live}
pub use Rattle.rdf_terms.specs.Sinks.{Appends, Attempts}
pub use Rattle.rdf_terms.specs.Terms.{Quad, all_have, has_scheme, IsTag, IsIri, Typed, Lang, Resource, Label, Anon, Cell, Blank, Term, IsLabel, Node}
pub use Rattle.rdf_terms.specs.Values.{local_value, iri_value, value, of_string, of_iri, move, allowed, outside, slash, leads, means, fails, local_from, string_value}
unfoldable pub use Rattle.rdf_terms.specs.Values.{is_fit}
pub use Rattle.rdf_terms.specs.Views.{subject_by, term_by, quad_of, iri_chars, iris_quad}
pub use Rattle.rdf_terms.specs.declared.constants.Known.TheVariants.{RdfType, RdfFirst, RdfRest, RdfNil, XsdString, XsdInteger, XsdBoolean}
pub use Rattle.rdf_terms.specs.declared.kind.Kind.{Kind}
pub use Rattle.rdf_terms.specs.declared.kind.Kind.TheVariants.{IriRef, PnameNs, PnameLn, OpenBracket, CloseBracket, OpenParen, CloseParen, LangTag, AtBase, AtPrefix, Carets, End, True, False, LabelNode, ShortString, LongString, Dot, Integer, Decimal, Double, A, Prefix, Base, Graph, Semicolon, Comma, OpenBrace, CloseBrace}
pub use Rattle.rdf_terms.specs.declared.reason.Reason.{Reason}
pub use Rattle.rdf_terms.specs.declared.reason.Reason.TheVariants.{DocumentTooLong, Ended, TooManyBindings, Unexpected, TooDeep, Unbound, NoBase, IriTooLong}
pub use Rattle.rdf_tokens.specs.Good.{most_bytes, first_place}
unfoldable pub use Rattle.rdf_tokens.specs.Good.{tokens_of}
pub use Rattle.rdf_tokens.specs.Grammars.{Marked, unmarked, Viable, Due, PassesNone, Language, reading_of, IsDocumentOf, IsWhole, RefusedIn, IsWithin, Refused, IsReadToItsEnd, IsFront, Rises, GoesOn, items_below, counted}
pub use Rattle.rdf_tokens.specs.Leaves.{Leaf, iri_of, leaf_of, token}
pub use Rattle.rdf_tokens.specs.Scans.{IsPlainName, KnowsColon, unread_bytes, token_of, is_end}
pub use Rattle.rdf_tokens.specs.Tokens.{Token}
unfoldable pub use Rattle.rdf_tokens.specs.Tokens.{read}
pub use Rattle.rdf_tokens.specs.Tokens.Outcome.{undecided, complete, token_too_long}
pub use Rattle.rdf_trig.specs.Accepting.{TreeAt, tree_words, TrigRead, StepsFrom}
pub use Rattle.rdf_trig.specs.Alike.{SameState, RunsTo}
pub use Rattle.rdf_trig.specs.Documents.{documents, Passes, trees, InTree, opens, closes, opened, closed, StandsFor, open_in, IsDeep, IsLong, IsOneMore}
pub use Rattle.rdf_trig.specs.Events.{Use, stands, binds, itself, Event, Took, Gave, document_events, event_quads, Bound, give, iri_events, verb_events, string_events, tag_events, blank_object_events, literal_events, object_events, collection_events, items_events, rest_events, list_events, predicates_events, more_events, objects_events, commas_events, maybe_events, triples_events, label_events, block_events, maybe_block_events, wrapped_events, body_events, name, HasIri, BoundFront, subject_events, directive_events}
pub use Rattle.rdf_trig.specs.Holding.{most_text, frames_most, Fits, frame_bytes, state_bytes, TextFits, NameFits, FrameFits, grammar_bytes, text_bytes}
pub use Rattle.rdf_trig.specs.Language.{Chosen}
pub use Rattle.rdf_trig.specs.Laws.{ScopesAlikeTakeAlike, IsRefusedAfter, CompletedBy, Reads, ViableWhereBound, ShapedAndBound, NamelessWhere, ReadQuadsAreDue, DocumentsAreRead, RefusedIsNoDocument, IsClosing}
pub use Rattle.rdf_trig.specs.Machine.{Reply, No, Go, kept, by_use, refuses, accepts, Topic, Answer, accept, at_start, mode_size, too_long, Start, place_size, up_size, depth, depth_at, depth_around, depth_up, Sparql, WantPrefixIri, Over, ran, accept_all, sized, spelt, Top, Listed, Statement, InPropertyList, At, Want, After, AfterPropertyList, WantVerb, waiting, unnamed, deepens, answer, Run, refused, with_quads, InBlock, InCollection, Around, Up, WantPrefix, WantBaseIri, WantDot, AfterLabel, GraphWord, GraphBracket, WantBrace, Inside, AfterText, WantType, PropertyListStart, CollectionStart, AfterSemicolon, quad_at, object_start, want_type, verb_start, after_subject, predicate_list_end, after_semicolon, after_text, property_list_start, collection_start, after_property_list, subject_start, start, want_brace, after_label, graph_bracket, want_prefix, want_prefix_iri, want_base_iri, want_dot, Spelt, unsized, Dotted, goes, cell, nil, node_closed, property_list_closed, collection_closed, directive_end, fronted, put, go_on, run, verb_in, subject_at, verb_at, quad_up, stop, around_size, type_verb}
pub use Rattle.rdf_trig.specs.Names.{prefix_of, local_of, with_base, with_binding, SameNames, iri_in, scope_after, bind}
unfoldable pub use Rattle.rdf_trig.specs.Names.{reference_in, name_in, is_full}
pub use Rattle.rdf_trig.specs.Owed.{iri_size, most_kept, Owed, OwedInAll, scope_size, in_force, document_held, held_after, most_held, verb_size, blank_held, literal_held, object_held, collection_held, items_held, list_held, predicates_held, more_held, objects_held, commas_held, label_held, maybe_held, triples_held, block_held, wrapped_held, body_held, HasToHold}
pub use Rattle.rdf_trig.specs.Quads.{Setting, stated, in_default, rest_quad, cell_at, node, named, resource, typed_literal, plain_literal, in_graph, anon_at, blank_of, lexical, tagged_literal, literal_of, iri_leaf, string_leaf, literal_leaf, object_leaf, items_of, collection_of, list_of, label_of, labelled, value_in, tag_of, subject_of}
pub use Rattle.rdf_trig.specs.Refusals.{Blamed, Excluded}
pub use Rattle.rdf_trig.specs.Scopes.{IsAdmitted, IsDenied, Names, Unnamed, Based, Binding, NotBinding, SameScope, LooksUp, LooksUpNone, StandsForIri, IsPrefixed, MeansLocal, IsReference, step_fault, FindsNone}
pub use Rattle.rdf_trig.specs.Slots.{topic_at, text_at, IsOfKind}
pub use Rattle.rdf_trig.specs.States.{IsNamedIn, name_at, use_at, mode_at, outer_of, level_of, place_in, text_in, after_semicolon_at, use_in, scope_in, is_go, moved, DepthMoves, ShortPrefix, PrefixFits, leaf, place_at, up_in, setting, graph_of, graph_at, graph_in, mode_in, object_of, rest_of, ready_of, up_from, up_of, IsTurtleToken, NameIn, cells_quad, first_of, setting_in, spelt_of, around_in, block_graph, spelling_of}
pub use Rattle.rdf_trig.specs.Steps.{GaveUp, state_of, May, DepthMay, Keeps, Accepts, answered, Fails, given, last_of, plain_term, collection_term, due_term, due_quad, IsQuadAt, IsListed, HasCome, IsAfterObject, reason_of}
pub use Rattle.rdf_trig.specs.TreeQuads.{document_quads, marked_at, own_quad, first_quad, inner_quads, collection_quads, items_quads, list_quads, predicates_quads, more_quads, objects_quads, commas_quads, subject_quads, maybe_quads, triples_quads, block_quads, maybe_block, wrapped_quads, body_quads}
pub use Rattle.rdf_trig.specs.TreeTokens.{directive_tokens, body_tokens, document_tokens, iri_tokens, verb_tokens, string_tokens, tag_tokens, literal_tokens, blank_tokens, object_tokens, collection_tokens, items_tokens, list_tokens, predicates_tokens, more_tokens, objects_tokens, commas_tokens, subject_tokens, maybe_tokens, triples_tokens, label_tokens, block_tokens, wrapped_tokens}
pub use Rattle.rdf_trig.specs.Trees.{pname_ln, Iri, iri_ref, prefixed, label, anon, predicate, type_word, short, lang_tag, base_tag, plain, tagged, typed, integer, true_word, false_word, Literal, rdf, numeric, boolean, iri_object, blank_object, collection_object, list_object, literal_object, collection, no_items, item, property_list, predicate_objects, no_more, objects, no_commas, comma, iri_subject, blank_subject, collection_subject, subject_triples, list_triples, base, sparql_prefix, sparql_base, iri_label, blank_label, last, last_dot, dot, wrapped, named_graph, label_triples, triples_or_graph, default_graph, Document, end, with_directive, with_body, pname_ns, BlankNode, Verb, long, Tag, prefix_tag, decimal, double, Object, Collection, Items, BlankNodePropertyList, PredicateObjectList, More, semicolon, semicolon_objects, ObjectList, Commas, Triples, prefix_id, LabelOrSubject, TriplesBlock, WrappedGraph, list_triples2, collection_triples2, triples2, Body, Directive}
pub use Rattle.rdf_trig.specs.Turns.{Suits, SuitsIn, Decides, Means, IsTurn, IsSuited, begun, turned, frames_after, verb_by}
pub use Rattle.rdf_trig.specs.declared.fault.StepFault.{StepFault}
pub use Rattle.rdf_trig.specs.declared.form.DocForm.{DocForm}
pub use Rattle.rdf_trig.specs.declared.form.DocForm.TheVariants.{TriG}
pub use Rattle.rdf_trig.specs.declared.state.Frame.{Frame}
pub use Rattle.rdf_trig.specs.declared.state.Outer.{Outer}
pub use Rattle.rdf_trig.specs.declared.turn.Turn.{Turn}
pub use Rattle.std.proofs.Common.{◌&&◌, ap, sym, ◌∙◌, ◌≡◌, ◌+◌, ℕ, cond, List, ◌++◌, not, length, Option, Some, None, refl, subst, Err, ◌≤◌, ◌<◌, ◌*◌, ◌^◌, Bool, true, false, [], arith, ◌==◌, ◌∷◌, ⊎_elim, ◌-◌, zero, suc, get_or, drop, ◌⊎◌, inl, inr, ap₂, length-append, append_assoc, ◌||◌, ◌≢◌, ◌↔◌, lit≤, rules}
unfoldable pub use Rattle.std.proofs.Math.Utf8.{encode}
pub use Rattle.std.proofs.lemmas.Bool.{false≢true, cond-true, cond-false, and_parts, cases_Bool, not-true, and_from, eqb-true, or_from, ne_eqb, ltb-true, ltb-false, lt-leb, not_from_false, agree_below, agree_below_at, le-ltb, lt-ltb, le-leb, leb-true, false_from_ne_true, cases_lt}
pub use Rattle.std.proofs.lemmas.List.{append-nil, length-drop}
pub use Rattle.std.proofs.lemmas.List.Sums.{position_or_len_is, sum_by-le, sum_by-cons, sum_by-drop_more, sum_by_push}
pub use Rattle.std.proofs.lemmas.Str.{IsCharBoundary-after_ascii, IsCharBoundary-before_ascii, encodes-chars, chars-encodes, scalars-chars, IsUtf8-string_bytes, chars-nil, length-le-encodes, IsCharBoundary-start}
pub use Rattle.std.specs.List.{before_first, after_first, position_or_len, AllByRecursion, sum_by, concat, All}
pub use Rattle.std.specs.Prelude.{nat_le, option_map, is_some, Result, Ok, OnOk, IfErr, unwrap_or, ⊤, slice_get, nat_lt, IsErrAnd, codes, IfSome, IfOk, MatchOption}
pub use Rattle.std.specs.Str.{IsUtf8, IsCharBoundary, encode_utf8_all}
unfoldable pub use Rattle.std.specs.Str.{chars, is_utf8}
pub use Rattle.std.specs.String.{string_bytes}
