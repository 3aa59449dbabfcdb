-- The names that the files here cite most, passed on from one place. One that stands for several things is not among them.
pub use Rattle.rdf_iri.specs.Scope.{InForce, bound_to}
pub use Rattle.rdf_iri.specs.Texts.{byte_len, equal}
pub use Rattle.rdf_lines.specs.Documents.{in_lines}
pub use Rattle.rdf_lines.specs.Laws.{IrisWithin, TokensWithin, iri_width, GraphShort, GraphWithin, string_width, SubjectWithin, TailWithin, TermWithin, TailShort, TermShort}
pub use Rattle.rdf_lines.specs.Writing.{Writable, iri_text, rename, subject_text, uchar, written, escaped, rename_node, node_text, string_text}
pub use Rattle.rdf_lines.specs.declared.form.Escapes.{Escapes}
pub use Rattle.rdf_lines.specs.declared.form.Escapes.TheVariants.{Plain, Ascii}
pub use Rattle.rdf_lines.specs.declared.form.Style.TheVariants.{Kept, Tagged}
pub use Rattle.rdf_read_back.specs.Laws.{ConvertedIsRead, IsJob, Suffice, HasIris, RefusedOnce, RefusedInMore, DocumentIsWritable, WrittenDocumentIsRead}
pub use Rattle.rdf_terms.specs.Terms.{Quad, Anon, Blank, Resource, Tail, Lang, Typed, Term, Literal, IsSubject, IsTail, IsTerm, IsGraph, Node, Cell, all_have, has_scheme, IsIri, IsNode, IsTag}
pub use Rattle.rdf_terms.specs.declared.kind.Kind.{Kind}
pub use Rattle.rdf_terms.specs.declared.kind.Kind.TheVariants.{IriRef, PnameNs, PnameLn, OpenBracket, OpenParen, Dot, CloseBracket, End, LabelNode, ShortString, LongString, Integer, Decimal, Double, LangTag, Carets, True, False, A, AtPrefix, AtBase, Prefix, Base, Graph, Semicolon, Comma, CloseParen, OpenBrace, CloseBrace}
pub use Rattle.rdf_terms.specs.declared.reason.Reason.{Reason}
pub use Rattle.rdf_terms.specs.declared.reason.Reason.TheVariants.{Unexpected, TooDeep, Unbound, NoBase, IriTooLong, TooManyBindings, RelativeIri, BadUtf8, NoToken, BadEscape, TokenTooLong, DocumentTooLong, Memory, Ended, Sink}
pub use Rattle.rdf_tokens.specs.Grammars.{Viable, IsDocumentOf, IsReadToItsEnd, IsWhole, IsFront, reading_of, Refused, LanguageOf, MarkedItem, RefusedIn, RefusesAt, StopsAt, unmarked, PassesNone}
pub use Rattle.rdf_tokens.specs.Leaves.{Leaf, leaf_of, token, iri_of}
pub use Rattle.rdf_tokens.specs.Scans.{most_bytes, IsToken}
pub use Rattle.rdf_tokens.specs.Tokens.{Token, Outcome, Reading}
unfoldable pub use Rattle.rdf_tokens.specs.Tokens.{read}
pub use Rattle.rdf_trig.specs.Documents.{InTree, IsDeep, IsLong, IsOneMore, StandsFor, documents, opens, trees, Passes}
pub use Rattle.rdf_trig.specs.Events.{Use, document_events, event_quads, itself, stands, binds, Event, Took, Gave, Bound, give}
pub use Rattle.rdf_trig.specs.Language.{language}
pub use Rattle.rdf_trig.specs.Machine.{Reply, No, Go, Start, depth, Over, State, at_start, ran, accept_all, Topic, sized, unsized, Level, Top, InBlock, Listed, InCollection, Around, Statement, InPropertyList, Up, At, Spelling, Dotted, Sparql, Mode, WantPrefix, WantPrefixIri, WantBaseIri, WantDot, AfterLabel, GraphWord, GraphBracket, WantBrace, Inside, Want, After, AfterText, WantType, PropertyListStart, CollectionStart, WantVerb, AfterSemicolon, AfterPropertyList, subject_at, verb_at, quad_at, quad_up, nil, iri_object_at, literal_at, object_start, type_at, want_type, verb_is, verb_start, after_subject, node_closed, property_list_closed, collection_closed, predicate_list_end, after_semicolon, tag_at, after_text, property_list_start, collection_start, after_property_list, subject_is, subject_start, start, want_brace, after_label, graph_is, graph_word, graph_bracket, directive_end, want_prefix, want_prefix_iri, want_base_iri, want_dot, waiting, stop, fronted, go_on, run}
pub use Rattle.rdf_trig.specs.Names.{prefix_of, local_of, with_base, with_binding}
unfoldable pub use Rattle.rdf_trig.specs.Names.{reference_in, name_in, is_full}
pub use Rattle.rdf_trig.specs.Quads.{in_default, stated, named, resource, labelled, value_in, tag_of, typed_literal, Setting, node, anon_at, plain_literal, tagged_literal, cell_at, rest_quad}
pub use Rattle.rdf_trig.specs.declared.form.DocForm.{DocForm}
pub use Rattle.rdf_trig.specs.declared.form.DocForm.TheVariants.{Turtle, TriG}
pub use Rattle.std.proofs.Common.{◌≡◌, ◌⊎◌, inl, inr, false, List, [], ◌∷◌, ◌++◌, Some, None, refl, sym, ap, ◌∙◌, subst, ⊎_elim, append_assoc, arith, ℕ, ◌+◌, ◌*◌, ◌≤◌, length, Option, true, lit≤, option_map, Bool, take, drop, length-append, ◌^◌, ◌≢◌, ◌<◌, cond, ◌==◌, nat_le, unwrap_or, lit<, length-drop}
pub use Rattle.std.specs.List.{AllByRecursion}
pub use Rattle.std.specs.Prelude.{map, IfSome, codes, encode_utf8_all, flat_map, decimal}
