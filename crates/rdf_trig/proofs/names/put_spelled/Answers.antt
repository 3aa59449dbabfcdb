-- The local part of a name means a text, so an expanded name is the one of the definition.
use Rattle.rdf_trig.proofs.Prelude.{[], ap, sym, ◌∙◌, subst, unwrap_or, chars, without_backslashes, local_value, value_is, MeansLocal, leaf}
use Rattle.std.proofs.lemmas.Result.{err_from_is_err_and}
use Rattle.rdf_trig.proofs.code.LocalShapes.{token_local}
use Rattle.rdf_trig.proofs.code.LookUps.{name_names, escaped_not, means_without}
use Rattle.rdf_trig.proofs.names.put_spelled.Goals as goal

pub lacks_escapes-requires : goal.lacks_escapes-requires
lacks_escapes-requires g c = subst MeansLocal (sym c.parts.ensures.local) (token_local c.args.token.now c.requires.kind c.requires.token)

pub returns-then-lacks_escapes-clause-ok : goal.returns-then-lacks_escapes-clause-ok
returns-then-lacks_escapes-clause-ok g c =
    name_names c.args.scope.now c.args.token.now.kind (leaf c.args.token.now) (chars c.parts.result.0.now) (chars c.parts.result.1.now) _
    c.requires.kind c.parts.ensures.prefix
    (ap (λ o. unwrap_or o []) (sym (c.lacks_escapes.ensures.value c.if-lacks_escapes.true) ∙ ap local_value c.parts.ensures.local))
    c.in_ok-expand_into.ensures.expanded

pub expand_escaped_into-requires : goal.expand_escaped_into-requires
expand_escaped_into-requires g c =
    (value_is (chars c.parts.result.1.now) (subst MeansLocal (sym c.parts.ensures.local) (token_local c.args.token.now c.requires.kind c.requires.token))).1

pub returns-in_err-expand_escaped_into-clause-err : goal.returns-in_err-expand_escaped_into-clause-err
returns-in_err-expand_escaped_into-clause-err g c =
    let p = err_from_is_err_and c.from_residual-in_err-expand_escaped_into.result c.from_residual-in_err-expand_escaped_into.ensures.1 in
    rw p.1
    (escaped_not c.args.scope.now c.args.token.now.kind (leaf c.args.token.now) (chars c.parts.result.0.now) (without_backslashes (chars c.parts.result.1.now))
    c.in_err-expand_escaped_into.field-0.0 p.0 c.requires.kind c.parts.ensures.prefix
    (means_without (chars c.parts.result.1.now) (leaf c.args.token.now) c.parts.ensures.local (token_local c.args.token.now c.requires.kind c.requires.token))
    p.2 c.in_err-expand_escaped_into.ensures.refused)

pub returns-clause-ok : goal.returns-clause-ok
returns-clause-ok g c =
    name_names c.args.scope.now c.args.token.now.kind (leaf c.args.token.now) (chars c.parts.result.0.now) (without_backslashes (chars c.parts.result.1.now)) _
    c.requires.kind c.parts.ensures.prefix
    (means_without (chars c.parts.result.1.now) (leaf c.args.token.now) c.parts.ensures.local (token_local c.args.token.now c.requires.kind c.requires.token))
    c.in_ok-expand_escaped_into.ensures.expanded
