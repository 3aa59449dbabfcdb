-- What stands after the colon of a plain name is its value.
use Rattle.rdf_trig.proofs.Prelude.{[], ap, sym, ◌∙◌, unwrap_or, chars, local_value, leaf}
use Rattle.rdf_trig.proofs.code.LocalShapes.{token_local}
use Rattle.rdf_trig.proofs.code.LookUps.{name_names}
use Rattle.rdf_trig.proofs.names.put_prefixed.Goals as goal

pub plain_parts-requires-clause-means : goal.plain_parts-requires-clause-means
plain_parts-requires-clause-means g c = token_local c.args.token.now c.requires.kind c.requires.token

pub returns-then-token-gt0-clause-ok : goal.returns-then-token-gt0-clause-ok
returns-then-token-gt0-clause-ok g c =
    name_names c.args.scope.now c.args.token.now.kind (leaf c.args.token.now) (chars c.plain_parts.result.0.now) (chars c.plain_parts.result.1.now) _
    c.requires.kind c.plain_parts.ensures.prefix
    (ap (λ o. unwrap_or o []) (sym c.plain_parts.ensures.value ∙ ap local_value c.plain_parts.ensures.local))
    c.in_ok-expand_into.ensures.expanded
