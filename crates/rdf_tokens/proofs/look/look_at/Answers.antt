-- A whole string or reference is the step whatever comes after the text.
use Rattle.rdf_tokens.proofs.Prelude.{IriRef, ShortString, tail_after}
use Rattle.rdf_tokens.proofs.LookLemmas.{token-look}
use Rattle.rdf_tokens.proofs.look.look_at.Goals as goal

pub returns-in-Some-clause-look : goal.returns-in-Some-clause-look
returns-in-Some-clause-look c = λ limit o. token-look c.args.dialect limit
    (tail_after c.args.tail) c.args.text.now c.in-Some.len ShortString c.utf8.text o c.in-Some.ensures.token

pub returns-in-Some-iri_len-clause-look : goal.returns-in-Some-iri_len-clause-look
returns-in-Some-iri_len-clause-look c = λ limit o. token-look c.args.dialect limit
    (tail_after c.args.tail) c.args.text.now c.in-Some-iri_len.len IriRef c.utf8.text o c.in-Some-iri_len.ensures.token
