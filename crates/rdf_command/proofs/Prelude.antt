-- The names that the files here cite most, passed on from one place. One that stands for several things is not among them.
pub use Rattle.clap.proofs.TakesLemmas.{passed_up}
pub use Rattle.clap.proofs.WalkLemmas.{list_any-map, first_value-rows, both, raw_values-rows}
pub use Rattle.clap.specs.Faults.{built_fault, check_fault, default_fault, entered_fault, given_default_fault, level_fault, settle_fault, values_fault, action_fault, use_fault, bundle_fault, bundle_step_fault, flag_word_fault, long_fault, option_fault, other_fault, positional_fault, react_fault, short_fault, step_fault, turn_fault, word_fault}
unfoldable pub use Rattle.clap.specs.Faults.{defaults_fault, walk_fault, flags_fault}
pub use Rattle.clap.specs.Kinds.{HasKind, IsAmong, check_kinds, request_kinds, Kinds, or_else, range_kinds, values_kinds, value_kinds}
pub use Rattle.clap.specs.Simple.{Shape, argument_words, built, filled_from, help_rule, entered, label_of, names_of, rows_at}
pub use Rattle.clap.specs.Walk.{rows_after, texts, action_of, answers_to, arg_by_id, finished, has_row, is_empty, nothing_held, reading_by, default_rows, settled, stronger, walk, walk_from, with_default, with_values, at_row, more_values, most_values, used, used_as, values_or_missing, without, Held, Outcome, Step, Waiting, Walk, after_flag, after_step, arg_by_index, arg_by_long, arg_by_short, attached_value, bundle, bundle_step, done, flag_met, idle, is_pending, long_met, long_or_other, next, option, option_met, option_word, plain, plain_word, positional, pushed, reacted, refused, settled_rows, short_met, short_or_plain, subcommand, subcommand_met, subcommand_or_other, takes_several, takes_values, to_positional, trailing, used_by_id, value, waits, walked_from, word_met}
unfoldable pub use Rattle.clap.specs.Walk.{bundle_met, walked}
pub use Rattle.clap.specs.Words.{HasMatchesOf, fault_of, found_of, is_simple, is_simple_and_free, rows_of, subcommand_name_of, subcommand_of, subcommand_rows_of, all_of, first_value, kind_of, IsUnsignedIn}
pub use Rattle.clap.specs.declared.builder.value_parser.ValueParser.{ValueParser}
pub use Rattle.clap.specs.declared.builder.value_parser.ValueParser.TheVariants.{Unsigned}
pub use Rattle.clap.specs.declared.error.kind.ErrorKind.TheVariants.{OutOfMemory, InvalidValue, WrongNumberOfValues, DisplayHelp, InvalidSubcommand, TooManyValues}
pub use Rattle.rdf_command.specs.Asides.{AsideBy, AsideEnds, AsideOnto, StopsAside, Told, output_called, told_of, AsideOut, EndsBySkip, skip_of}
pub use Rattle.rdf_command.specs.BadIris.{RefusesWith, bad_char, iri_front, lines_about, lines_by, lines_for, lines_of, shown, lines_in}
pub use Rattle.rdf_command.specs.Outputs.{Outputs, output_of, EndsInto, EndsTo, IsEmpty, IsFiled, RunsInto, into}
pub use Rattle.rdf_command.specs.Programs.{IsNoTaskOf, IsToldBy, EndsBy, OneEndsAt, SeveralEnd, outputs_of, documents_of, shut_of}
pub use Rattle.rdf_command.specs.Reasons.{Device, Devices, ReportsStop, broken, device, ReportsFailed, standard_output, OneTells, ReportsBindings, ReportsStopOf, source_tells, Shut, devices_of, drain_tells, reason_line}
pub use Rattle.rdf_command.specs.RunSteps.{IsOfIri, told_by, shared_of}
pub use Rattle.rdf_command.specs.Runs.{Ending, FilesRead, StartsWith, job_of, RunEnds, RunStops, ending, Does, HandsOver, SendsOn, StopsAction, TellsEvidence, accepted_text, files_told, StopsCheckAs}
pub use Rattle.rdf_command.specs.Several.{Either, EndsAt, EndsEach, EndsLeft, Shared, has_failed_output, status_after}
pub use Rattle.rdf_command.specs.Statuses.{GoesTo, load_status, ReportsExplained, ReportsExplainedOf, ReportsOf, explanation, status_of, ReportsCounts, Reports}
pub use Rattle.rdf_command.specs.WordSteps.{HasLimits, IsEntered, IsFormatWord, NoBaseOf, NoFormOf, NoFormsOf, NoGraphOf, NoSkipOf, NoTaskBy, NoWordOf, fault_by}
pub use Rattle.rdf_command.specs.Words.{name_of, TakesFormats, base_by, number_of, Entered, action_name, by_name, form_name, format_names, forms, AreDocuments, CanSkip, GivesNone, IsFormBy, IsFormless, further_by, further_of, name_by, number_in, IsBase, IsWord, escapes_by, file_by, is_addressed, EndsIn}
pub use Rattle.rdf_command.specs.declared.task.Task.{Task}
pub use Rattle.rdf_iri.specs.Texts.{byte_len}
pub use Rattle.rdf_options.specs.Options.{rdfconv, action_app, ascii_rule, file_rule, files_rule, graph_rule, node_prefix_rule, output_rule, prefixes_rule, skip_rule}
pub use Rattle.rdf_stream.specs.Devices.{Written, AppendsFront}
pub use Rattle.rdf_stream.specs.Messages.{report_text}
pub use Rattle.rdf_stream.specs.Places.{NearRead}
pub use Rattle.rdf_stream.specs.Told.{told, written, AsTold}
pub use Rattle.rdf_stream.specs.declared.explains.Evidence.{Evidence}
pub use Rattle.rdf_stream.specs.declared.fault.LoadFault.{LoadFault}
pub use Rattle.rdf_stream.specs.declared.fault.LoadFault.TheVariants.{Bad}
pub use Rattle.rdf_stream.specs.declared.fault.StreamFault.{StreamFault}
pub use Rattle.rdf_stream.specs.declared.fault.StreamFault.TheVariants.{Write, Refused}
pub use Rattle.rdf_stream.specs.declared.form.Form.{Form}
pub use Rattle.std.proofs.Common.{◌≡◌, ℕ, false, List, Option, inl, inr, subst, sym, ◌∙◌, ◌+◌, Bool, true, true≢false, [], ◌∷◌, Some, None, IfSome, is_some, Result, Ok, Err, IfOk, ap, codes, cond, encode_utf8, encode_utf8_all, length, length-append, option_map, refl, ◌||◌, ◌⊎◌, arith, ◌++◌, map, bytes_eq, Bor, ap₂, drop, string_bytes, take, unwrap_or, ⊎_elim, ◌≢◌, ◌<◌, ◌&&◌, not, eqb-true, find, fold, zero, suc, ◌-◌, ◌==◌, option_and_then, slice_get, rules, tests}
pub use Rattle.std.proofs.lemmas.List.{append_assoc, map-append, take-append-drop, length-drop, take_all, append-nil, drop_all, drop_more}
pub use Rattle.std.proofs.lemmas.Result.{on_ok_weaker, IfErr-weaker, IfOk-weaker, OkIff-at_ok, OkIff-decides}
pub use Rattle.std.proofs.lemmas.Slice.Eq.{bytes_eq-Decides, ends_is}
pub use Rattle.std.specs.List.{list_any, list_all}
pub use Rattle.std.specs.Option.{option_map_or}
pub use Rattle.std.specs.Str.{chars, IsUtf8}
pub use Rattle.std.specs.Str.Iter.{chars_rest}
