-- The binding that the scope makes, or its error, is that of the machine.
use Rattle.rdf_trig.proofs.Prelude.{subst, ◌≤◌, ◌*◌, None, chars, string_bytes, IsUtf8-string_bytes, byte_len-chars, leaf}
use Rattle.rdf_trig.proofs.code.AgreeingScopes.{binding_looks, binding_none}
use Rattle.rdf_trig.proofs.code.TurnsLemmas.{on_ok, if_err}
use Rattle.rdf_trig.proofs.names.look_up_prefix.Goals as goal

pub bind-requires-clause-short : goal.bind-requires-clause-short
bind-requires-clause-short g c =
    let p = c.args.prefix.now in
    subst (λ n. n ≤ 4 * c.args.scope.now.limits.token) (byte_len-chars (string_bytes p) (IsUtf8-string_bytes p)) c.requires.short

pub returns-in-IriRef-clause-ok : goal.returns-in-IriRef-clause-ok
returns-in-IriRef-clause-ok g c =
    rw c.in-IriRef.is (on_ok c.bind.result _ _
    (λ h w s e. binding_looks s c.args.scope.now c.bind.new.scope w (chars (string_bytes c.args.prefix.now))
    (leaf c.args.token.now) None e h) c.bind.ensures.ok)

pub returns-in-IriRef-clause-err : goal.returns-in-IriRef-clause-err
returns-in-IriRef-clause-err g c =
    rw c.in-IriRef.is (if_err c.bind.result _ _
    (λ r h w s e. binding_none s c.args.scope.now w (chars (string_bytes c.args.prefix.now)) (leaf c.args.token.now) r e h) c.bind.ensures.err)
