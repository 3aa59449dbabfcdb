-- The names that the files here cite most, passed on from one place. One that stands for several things is not among them.
pub use Rattle.rdf_driver.specs.Kinds.{has, number}
pub use Rattle.rdf_driver.specs.Readers.{Driven, HasRead, LeavesOff, Refuses, StandsAt, Overflows, Overruns, Feeds, FeedFails, IsLive, piece_reading, Sums, Finishes, FinishFails, Denies, IsPlaced, SameLimits}
pub use Rattle.rdf_driver.specs.Reading.{Moment, Advances, FailsAfter, kept_kind, IsDecided, IsEnded, ReadsAll, Known, IsReady, EndFails, finding, ReadsTokens, driven, moment, with_token, TakesToken, WaitsHere, FailsAt, ReadsOn, going, moment_of}
pub use Rattle.rdf_driver.specs.Words.{Words, Lawful, in_words, GivesUp, Blames, Takes, Misses, KnowsNext}
pub use Rattle.rdf_driver.specs.declared.summary.Summary.{Summary}
pub use Rattle.rdf_terms.proofs.SinksLemmas.{appends_attempts, appends_both}
pub use Rattle.rdf_terms.specs.declared.kind.Kind.{Kind}
pub use Rattle.rdf_terms.specs.declared.reason.Reason.{Reason}
pub use Rattle.rdf_terms.specs.declared.reason.Reason.TheVariants.{BadUtf8, NoToken, BadEscape, TokenTooLong, DocumentTooLong, Memory, Ended, Sink, Unexpected, RelativeIri, IriTooLong, Unbound, NoBase, TooDeep, TooManyBindings}
pub use Rattle.rdf_tokens.proofs.GrammarFronts.{front_before, front_whole}
pub use Rattle.rdf_tokens.proofs.GrammarsLemmas.{counted-append, counted_undecided, end_complete, only_ended, counted_complete, tokens_of-nil, given_few}
pub use Rattle.rdf_tokens.specs.Good.{tokens_of, end_of}
pub use Rattle.rdf_tokens.specs.Grammars.{Viable, PassesNone, Due, BeginsDue, IsFront, StopsAt, RefusesAt, RefusedIn, GoesOn, counted, LanguageOf, reading_of, IsWhole}
pub use Rattle.rdf_tokens.specs.Scans.{GivesToken, TakesBytes, RefusesFor, most_bytes, IsWaiting, place_of, HasScanned, Gives, KnowsItsColon, PassesBlank, token_of, StopsFor, is_end, left}
pub use Rattle.rdf_tokens.specs.Tokens.{Place, Outcome, Token, Reading}
pub use Rattle.rdf_tokens.specs.Unread.{Unread}
pub use Rattle.std.proofs.Common.{◌≡◌, ℕ, Bool, true, false, List, [], ◌∷◌, ◌++◌, Option, refl, sym, ap, ◌∙◌, subst, append_assoc, ◌+◌, ◌<◌, ◌≤◌, length, take, drop, ⊎_elim, arith, length-append, Result, Ok, ◌≢◌, ◌*◌, ◌^◌, ◌%◌, ◌==◌, get_or, ◌&&◌, not, nat_le, inl, inr, None, ap₂, rules, cond, Some}
pub use Rattle.std.proofs.Math.Bridge.{le_prop}
pub use Rattle.std.proofs.Math.Logic.{∥∥₁_elim, ∥∥₁_prop}
pub use Rattle.std.proofs.lemmas.Bool.{cases_lt, and_parts, leb-true, false≢true, cond-false}
pub use Rattle.std.proofs.lemmas.List.{append-nil, take-append-drop, length-take-le}
