use Rattle.rdf_command.proofs.Prelude.{subst, passed_up, told}
use Rattle.rdf_stream.specs.Loads.{BindsNot}
use Rattle.rdf_command.proofs.SeveralLemmas.{none_by_bytes, none_by_source}
use Rattle.rdf_command.proofs.several.given_by.Goals as goal

pub returns-in_err-bytes-clause-none : goal.returns-in_err-bytes-clause-none
returns-in_err-bytes-clause-none g c =
    passed_up c.from_residual.result c.in_err-bytes.field-0.0 _ c.from_residual.ensures.1
    (none_by_source _ c.args.limits _ (told g.I.Source c.read_whole.new.source) c.in_err-bytes.ensures.stops)

pub returns-in_err-bindings_in-clause-none : goal.returns-in_err-bindings_in-clause-none
returns-in_err-bindings_in-clause-none g c =
    passed_up c.from_residual-in_err-bindings_in.result c.in_err-bindings_in.field-0.0 _ c.from_residual-in_err-bindings_in.ensures.1
    (none_by_bytes _ c.args.limits _ (told g.I.Source c.read_whole.new.source) c.in_ok-bytes.bytes.items c.in_ok-bytes.ensures.given
    (subst (BindsNot c.in_err-bindings_in.field-0.0 c.args.limits) c.as_slice.ensures.value c.in_err-bindings_in.ensures.stops))
