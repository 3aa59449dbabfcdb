-- The matches of a parse without a fault have all that a task needs, but a base or a word may be bad.
use Rattle.rdf_command.proofs.Prelude.{◌∙◌, ap, sym, subst, codes, chars, map, option_map, IfSome, Some, first_value-rows, raw_values-rows, passed_up, all_of, found_of, rows_of, AreDocuments, CanSkip, IsBase, IsFormBy, IsWord, base_by, escapes_by, file_by, further_by, further_of, is_addressed, name_by, IsFormatWord, NoFormOf, NoFormsOf}
use Rattle.rdf_command.specs.Words.{is_given}
use Rattle.rdf_command.proofs.GivenLemmas.{no_form, no_forms, no_graph, no_skip, no_task, now_of, no_word, text_given, text_is}
use Rattle.rdf_command.proofs.commands.task_of.Goals as goal

pub unwrap-word-requires : goal.unwrap-word-requires
unwrap-word-requires c = text_given (found_of c.args.found.now) (codes "format") _ c.get_str.result c.get_str.ensures c.requires.format.1

pub form_in-requires : goal.form_in-requires
form_in-requires c =
    subst IsFormatWord (sym (text_is (found_of c.args.found.now) (codes "format") _ c.get_str.result c.get_str.ensures c.requires.format.1
    c.unwrap-word.result c.unwrap-word.ensures)) c.requires.format.2

pub returns-in_err-form-clause-refused : goal.returns-in_err-form-clause-refused
returns-in_err-form-clause-refused c =
    let found = found_of c.args.found.now in
    let word = text_is found (codes "format") _ c.get_str.result c.get_str.ensures c.requires.format.1 c.unwrap-word.result c.unwrap-word.ensures in
    let file = c.get_str-2.ensures ∙ first_value-rows found (codes "file") in
    passed_up c.from_residual.result c.in_err-form.field-0.0 _ c.from_residual.ensures.1
    (no_form (c.args.name.now, rows_of found) c.requires.format.0 _ c.in_err-form.field-0.0 c.requires.format.1 file
    (subst (λ name. NoFormOf c.requires.format.0 name c.in_err-form.field-0.0) c.name_by.ensures
    (subst (λ w. NoFormOf w c.name_by.result.now c.in_err-form.field-0.0) word c.in_err-form.ensures.refused)))

pub returns-in_err-base-clause-refused : goal.returns-in_err-base-clause-refused
returns-in_err-base-clause-refused c =
    let found = found_of c.args.found.now in
    let base = c.base_by.ensures ∙ ap base_by (c.get_str-3.ensures ∙ first_value-rows found (codes "base")) in
    passed_up c.from_residual-in_err-base.result c.in_err-base.field-0.0 _ c.from_residual-in_err-base.ensures.1
    (no_task (c.args.name.now, rows_of found) c.iri.result _ c.in_err-base.field-0.0 base
    (c.limits_of-limits.ensures.iri ∙ ap (λ n. Some n) (sym c.iri.ensures)) c.in_err-base.ensures.bad)

pub returns-in_err-node_prefix-clause-refused : goal.returns-in_err-node_prefix-clause-refused
returns-in_err-node_prefix-clause-refused c =
    let found = found_of c.args.found.now in
    let word = c.get_str-6.ensures ∙ first_value-rows found (codes "node-prefix") in
    passed_up c.from_residual-in_err-node_prefix.result c.in_err-node_prefix.field-0.0 _ c.from_residual-in_err-node_prefix.ensures.1
    (no_word (c.args.name.now, rows_of found) _ c.in_err-node_prefix.field-0.0 word c.in_err-node_prefix.ensures.bad)

pub returns-in_err-graph-clause-refused : goal.returns-in_err-graph-clause-refused
returns-in_err-graph-clause-refused c =
    let found = found_of c.args.found.now in
    let graph = c.get_str-7.ensures ∙ first_value-rows found (codes "graph") in
    passed_up c.from_residual-in_err-graph.result c.in_err-graph.field-0.0 _ c.from_residual-in_err-graph.ensures.1
    (no_graph (c.args.name.now, rows_of found) c.iri-2.result _ c.in_err-graph.field-0.0 graph
    (c.limits_of-limits.ensures.iri ∙ ap (λ n. Some n) (sym c.iri-2.ensures)) c.in_err-graph.ensures.bad)

pub returns-clause-task : goal.returns-clause-task
returns-clause-task c =
    let found = found_of c.args.found.now in
    let base = c.base_by.ensures ∙ ap base_by (c.get_str-3.ensures ∙ first_value-rows found (codes "base")) in
    let explain = c.get_str-4.ensures ∙ first_value-rows found (codes "explain") in
    let ascii = c.get_str-5.ensures ∙ first_value-rows found (codes "ascii") in
    let word = c.get_str-6.ensures ∙ first_value-rows found (codes "node-prefix") in
    let graph = c.get_str-7.ensures ∙ first_value-rows found (codes "graph") in
    let prefixes = c.get_str-8.ensures ∙ first_value-rows found (codes "prefixes") in
    let file = c.get_str-9.ensures ∙ first_value-rows found (codes "file") in
    let output = c.get_str-10.ensures ∙ first_value-rows found (codes "output") in
    let skip = c.get_str-12.ensures ∙ first_value-rows found (codes "skip") in
    let format = text_is found (codes "format") _ c.get_str.result c.get_str.ensures c.requires.format.1 c.unwrap-word.result c.unwrap-word.ensures in
    let first = c.name_by.ensures ∙ ap name_by (c.get_str-2.ensures ∙ first_value-rows found (codes "file")) in
    let further = c.further_by-further.ensures ∙ ap (further_by c.args.name.now) (c.get_strs.ensures ∙ raw_values-rows found (codes "file")) in
    record {
      action = c.action_of-action.ensures;
      forms = record {
        word = c.requires.format.0;
        given = c.requires.format.1;
        form = subst (λ name. IsFormBy c.requires.format.0 name c.in_ok-form.form) first
            (subst (λ w. IsFormBy w c.name_by.result.now c.in_ok-form.form) format c.in_ok-form.ensures.form);
        more = subst (λ names. AreDocuments c.requires.format.0 names (further_of c.in_ok-more.more.items)) further
            (subst (λ w. AreDocuments w (map (λ s. s.now) c.further_by-further.result.now) (further_of c.in_ok-more.more.items)) format
            c.in_ok-more.ensures.documents);
      };
      base = c.in_ok-base.ensures.base ∙ ap (option_map chars) base;
      good_base = subst (λ text. IfSome text (IsBase c.limits_of-limits.result.iri)) base (rw c.iri.ensures at c.in_ok-base.ensures.good);
      addressed = c.is_addressed-addressed.ensures ∙ ap is_addressed (c.get_str-11.ensures ∙ first_value-rows found (codes "base"));
      limits = c.limits_of-limits.ensures;
      explain = c.is_given-explain.ensures ∙ ap is_given explain;
      escapes = c.escapes_by-escapes.ensures ∙ ap escapes_by (c.is_given.ensures ∙ ap is_given ascii);
      node_prefix = c.in_ok-node_prefix.ensures.word ∙ ap (option_map chars) word;
      good_node_prefix = subst (λ text. IfSome text IsWord) word c.in_ok-node_prefix.ensures.good;
      graph = c.in_ok-graph.ensures.graph ∙ ap (option_map chars) graph;
      good_graph = subst (λ text. IfSome text (IsBase c.limits_of-limits.result.iri)) graph (rw c.iri-2.ensures at c.in_ok-graph.ensures.good);
      prefixes = c.in_ok-prefixes.ensures ∙ prefixes;
      file = c.in_ok-file.ensures ∙ (c.file_by.ensures ∙ ap file_by file);
      output = c.in_ok-output.ensures ∙ (c.file_by-2.ensures ∙ ap file_by output);
      skip = c.in_ok-skip.ensures.skip ∙ skip;
      good_skip = subst (λ text. IfSome text (λ _. CanSkip c.in_ok-form.form (further_by c.args.name.now (all_of (codes "file") (rows_of found))))) skip
          (subst (λ names. IfSome (option_map now_of c.get_str-12.result) (λ _. CanSkip c.in_ok-form.form names)) further c.in_ok-skip.ensures.good);
    }

pub returns-in_err-more-clause-refused : goal.returns-in_err-more-clause-refused
returns-in_err-more-clause-refused c =
    let found = found_of c.args.found.now in
    let word = text_is found (codes "format") _ c.get_str.result c.get_str.ensures c.requires.format.1 c.unwrap-word.result c.unwrap-word.ensures in
    let further = c.further_by-further.ensures ∙ ap (further_by c.args.name.now) (c.get_strs.ensures ∙ raw_values-rows found (codes "file")) in
    passed_up c.from_residual-in_err-more.result c.in_err-more.field-0.0 _ c.from_residual-in_err-more.ensures.1
    (no_forms (c.args.name.now, rows_of found) c.requires.format.0 _ c.in_err-more.field-0.0 c.requires.format.1 further
    (subst (λ w. NoFormsOf w (map (λ s. s.now) c.further_by-further.result.now) c.in_err-more.field-0.0) word c.in_err-more.ensures.refused))

pub returns-in_err-skip-clause-refused : goal.returns-in_err-skip-clause-refused
returns-in_err-skip-clause-refused c =
    let found = found_of c.args.found.now in
    let word = text_is found (codes "format") _ c.get_str.result c.get_str.ensures c.requires.format.1 c.unwrap-word.result c.unwrap-word.ensures in
    let first = c.name_by.ensures ∙ ap name_by (c.get_str-2.ensures ∙ first_value-rows found (codes "file")) in
    let further = c.further_by-further.ensures ∙ ap (further_by c.args.name.now) (c.get_strs.ensures ∙ raw_values-rows found (codes "file")) in
    let form = subst (λ name. IsFormBy c.requires.format.0 name c.in_ok-form.form) first
    (subst (λ w. IsFormBy w c.name_by.result.now c.in_ok-form.form) word c.in_ok-form.ensures.form) in
    passed_up c.from_residual-in_err-skip.result c.in_err-skip.field-0.0 _ c.from_residual-in_err-skip.ensures.1
    (no_skip (c.args.name.now, rows_of found) c.requires.format.0 c.in_ok-form.form _ _ c.in_err-skip.field-0.0 c.requires.format.1 form
    (c.get_str-12.ensures ∙ first_value-rows found (codes "skip"))
    further c.in_err-skip.ensures.bad)
