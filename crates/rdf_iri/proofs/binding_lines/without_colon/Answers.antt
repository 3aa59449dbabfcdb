use Rattle.rdf_iri.proofs.Prelude.{arith, strip_suffix_char}
use Rattle.rdf_terms.proofs.NamesLemmas.{ns_without_colon}
use Rattle.rdf_iri.proofs.binding_lines.without_colon.Goals as goal

pub returns : goal.returns
returns c = rw c.in-Some.is at (strip_suffix_char 58 c.args.name.now c.strip_suffix.result c.strip_suffix.ensures.cases (omega arith))

pub unreachable-requires : goal.unreachable-requires
unreachable-requires c =
    let none = rw c.in-None.is at (strip_suffix_char 58 c.args.name.now c.strip_suffix.result c.strip_suffix.ensures.cases (omega arith)) in
    ns_without_colon c.args.name.now c.utf8.name none c.requires
