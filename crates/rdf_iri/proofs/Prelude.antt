-- The names that the files here cite most, passed on from one place. One that stands for several things is not among them.
pub use Rattle.rdf_iri.specs.BindingLines.{is_blank, IsBinding, IsPrefixId, IsSparqlPrefix, SaysNothing, AreBlanks, BeginsBlank, IsPlain, Begins}
pub use Rattle.rdf_iri.specs.BindingSteps.{Enters, TakesLine, StopsAt, IsComment, NameThen, IriThen, IsIn, PairThen, EndsAtDot, Declares, IsDeclaration}
pub use Rattle.rdf_iri.specs.Bindings.{byte_order_mark, Entry, TextSays, Says, IsFile, FailsAt, MarkDropped, with_feeds, IsCut, CrDropped, EntryFits, AllFit, bindings_of, BindingMap, SameMap, AllSay, IsReadFrom, FailsFor, IsRefused, LinesOf, KeepsSizes}
pub use Rattle.rdf_iri.specs.Cuts.{past}
pub use Rattle.rdf_iri.specs.Directory.{EndsInSlash, HasDirectory, HasPath, GrowsBy, dots_after_slash, has_dots, BeginsSegment, EndsInPath}
pub use Rattle.rdf_iri.specs.Dots.{parent, has_slash, Walk, walk, by_D, by_E, fits_D, Step, FirstOf, RuleA, RuleB, RuleC, RuleD, RuleE, ReplacedBySlash, LastSegmentRemoved, Ends, DotsRemoved, first_segment, after_segment, fits_A, by_A, fits_B, by_B, fits_C, by_C, steps, skip, slash, up, keep}
unfoldable pub use Rattle.rdf_iri.specs.Dots.{step, finish, remove_dots}
pub use Rattle.rdf_iri.specs.Faults.{Unresolved}
pub use Rattle.rdf_iri.specs.Limits.{Sizes, InRange}
pub use Rattle.rdf_iri.specs.Parts.{suffix, fragment_parts, Parts, IsAuthority, recompose, with_scheme, with_authority, query_parts, hierarchy_parts, Splits, scheme_text, authority_text}
unfoldable pub use Rattle.rdf_iri.specs.Parts.{parts_of}
pub use Rattle.rdf_iri.specs.Prefixes.{entry_bytes, entries_of, KeptApart, StandsAt, Sets, NotJoined}
pub use Rattle.rdf_iri.specs.Resolve.{Resolves, directory, merge_onto, joined, target, authority_target, path_target, or_else, ByPath, Transforms, based, merged_front, base_front}
unfoldable pub use Rattle.rdf_iri.specs.Resolve.{resolved}
pub use Rattle.rdf_iri.specs.Roots.{front_text, HasRoot, HasOwnPath}
pub use Rattle.rdf_iri.specs.Scope.{InForce, bound_to, Binds, HasRoom, IsFull, IsBound, NotBound, BaseFits, KeepsLimits, base_bytes, binding_bytes, most_bytes_held, Expands, ExpandsHere, NotExpanded, UnresolvedHere, IsBased}
pub use Rattle.rdf_iri.specs.Seen.{text_of, part_chars, parts_chars, slices}
pub use Rattle.rdf_iri.specs.Steps.{path_in, tail_in, onward, IsDirectory, path_at, written_onward, Leads, Passes, front_at, IsMove}
pub use Rattle.rdf_iri.specs.Table.{hash_of, Names, HasSlot, keys_of, IsKeyAt, HaveSlots, KeepsSlots, Kept, IsNext}
pub use Rattle.rdf_iri.specs.Texts.{Lacks, BeginsWith, before, after, equal, byte_len, from, begins, IsIriText}
pub use Rattle.rdf_iri.specs.declared.fault.BindingReason.TheVariants.{BadBinding, TokenTooLong}
pub use Rattle.rdf_terms.proofs.CharsLemmas.{before_last, no_chars, few_bytes}
pub use Rattle.rdf_terms.specs.Classes.{is_letter, is_digit, within}
unfoldable pub use Rattle.rdf_terms.specs.Classes.{has}
pub use Rattle.rdf_terms.specs.Classes.Class.{the, iri_char}
pub use Rattle.rdf_terms.specs.Terms.{has_scheme, all_have, IsIri, scheme_goes_on}
pub use Rattle.rdf_terms.specs.declared.kind.Dialect.TheVariants.{Turtle}
pub use Rattle.rdf_terms.specs.declared.kind.Kind.TheVariants.{PnameNs, Prefix}
pub use Rattle.std.proofs.Common.{◌≡◌, ℕ, true, false, List, ◌++◌, Some, sym, ap, ◌∙◌, subst, suc, [], ◌∷◌, length, None, inl, inr, refl, ⊎_elim, arith, ◌+◌, ◌<◌, ◌≤◌, cond, ◌==◌, Option, append_assoc, zero, Bool, ◌↔◌, take, drop, get_or, option_map, ◌||◌, ◌⊎◌, ◌*◌, ◌≢◌, ◌&&◌, add-one, eqb, ◌^◌, ◌-◌, ap₂, slice_range, ◌%◌, slice_index, rules}
pub use Rattle.std.proofs.Math.ListN.{drop_of_length-le, set}
pub use Rattle.std.proofs.Math.Seq.{drop-cons, take-append_seam, drop-append_seam, take-suc, take-append-add, get_or-append_seam, drop-length, drop-append-add}
pub use Rattle.std.proofs.lemmas.Bool.{cases_Bool, cond-true, cond-false, eqb-true, eqb-false, and_parts, and_from, cases_lt, false≢true, lt-ltb, ltb-true, or_cases, ne_eqb, or_from, or_parts, false_from_ne_true, or_left, or_right, lt-leb, and_right, ltb-false, eq-eqb, and_left, not-true}
pub use Rattle.std.proofs.lemmas.List.{length-append, append-nil, append_cancel_left, length-take-le, take-append-drop, take_all, append_cancel_right, take_more, length-drop, take-set-le, drop-set, drop-drop, take-take, length-take, take-append-le, drop_more, get_or_append_left, get_or_push, length-set}
pub use Rattle.std.proofs.lemmas.List.Sums.{sum_by-cons, sum_by-le, sum_by-append, sum_by-drop_more}
pub use Rattle.std.proofs.lemmas.Result.{err_from_is_err_and, on_ok_weaker}
pub use Rattle.std.proofs.lemmas.Slice.{between_to_end}
pub use Rattle.std.proofs.lemmas.Slice.Eq.{bytes_eq-Decides}
pub use Rattle.std.proofs.lemmas.Str.{encodes-chars, encodes-append, chars-append, IsUtf8-nil, chars-nil, chars-encodes, scalars-chars, chars_from_encodes, IsCharBoundary-from_drop, IsCharBoundary-at_seam, IsCharBoundary-before_ascii, IsCharBoundary-after_ascii, encode_ascii, encodes_same, cons_from_encodes, inside_one, length-encode, len_utf8_bounds, IsUtf8-string_bytes}
pub use Rattle.std.proofs.lemmas.Str.Pattern.{strip_prefix_char, contains_char, strip_suffix_char, split_parts}
pub use Rattle.std.specs.BTreeMap.{BTreeMap, get_by_text, is_at, Updates}
pub use Rattle.std.specs.Char.{to_ascii_lowercase, encode_utf8}
pub use Rattle.std.specs.List.{AllByRecursion, starts_with, All, sum_by, copy_within}
pub use Rattle.std.specs.Option.{unwrap_or, option_copied}
pub use Rattle.std.specs.Prelude.{MatchOption, codes, is_some, not, nat_lt, map, ⊤, String, MatchBool, Result, Ok, Err, OnOk, IfErr, OnErr}
pub use Rattle.std.specs.Str.{IsUtf8, encode_utf8_all, IsCharBoundary, bytes_eq}
unfoldable pub use Rattle.std.specs.Str.{chars}
pub use Rattle.std.specs.String.{string_bytes, string_cmp}
pub use lib.Utf8.{scalars}
