use Rattle.rdf_iri.proofs.BindingLemmas.{blanks_end, blanks_all}
use Rattle.rdf_iri.proofs.binding_lines.blanks_len.Goals as goal

pub returns-then-byte-ne9-clause-rest : goal.returns-then-byte-ne9-clause-rest
returns-then-byte-ne9-clause-rest c = blanks_end c.args.text.now c.loop-i.i c.loop-i.invariant c.loop-i-test.true c.if-byte-ne32.true c.if-byte-ne9.true

pub returns-clause-rest : goal.returns-clause-rest
returns-clause-rest c = blanks_all c.args.text.now c.loop-i.i c.loop-i.invariant c.loop-i-test.false
