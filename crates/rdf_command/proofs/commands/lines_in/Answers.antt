use Rattle.rdf_command.proofs.Prelude.{◌∙◌, None, ap, codes, cond, sym, IfOk-weaker, first_value-rows, found_of, rows_of, lines_about, base_by}
use Rattle.rdf_command.specs.Words.{is_given}
use Rattle.rdf_command.proofs.BadIriLemmas.{lines_of_base, lines_of_graph}
use Rattle.rdf_command.proofs.commands.lines_in.Goals as goal

pub returns-then-not-is_given : goal.returns-then-not-is_given
returns-then-not-is_given c =
    let found = found_of c.args.found.now in
    let given = c.is_given.ensures ∙ ap is_given (c.get_str.ensures ∙ first_value-rows found (codes "explain")) in
    ap (λ b. cond b (lines_about (rows_of found) c.args.fault.now) None) (sym (sym given ∙ c.if-not-is_given.true))

pub returns-in-BadBase : goal.returns-in-BadBase
returns-in-BadBase c =
    let found = found_of c.args.found.now in
    let given = c.is_given.ensures ∙ ap is_given (c.get_str.ensures ∙ first_value-rows found (codes "explain")) in
    let text = c.base_by.ensures ∙ ap base_by (c.get_str-in-BadBase.ensures ∙ first_value-rows found (codes "base")) in
    IfOk-weaker c.lines_of.result _ _
    (λ lines h. h ∙ lines_of_base (rows_of found) c.args.fault.now c.limit_of-most.result _
    (sym given ∙ c.if-not-is_given.false) c.limit_of-most.ensures c.in-BadBase.is text) c.lines_of.ensures

pub returns-in-BadGraph : goal.returns-in-BadGraph
returns-in-BadGraph c =
    let found = found_of c.args.found.now in
    let given = c.is_given.ensures ∙ ap is_given (c.get_str.ensures ∙ first_value-rows found (codes "explain")) in
    let text = c.get_str-in-BadGraph.ensures ∙ first_value-rows found (codes "graph") in
    IfOk-weaker c.lines_of-in-BadGraph.result _ _
    (λ lines h. h ∙ lines_of_graph (rows_of found) c.args.fault.now c.limit_of-most.result _
    (sym given ∙ c.if-not-is_given.false) c.limit_of-most.ensures c.in-BadGraph.is text) c.lines_of-in-BadGraph.ensures
