use Rattle.rdf_trig.proofs.Prelude.{ap, ◌∙◌, unwrap_or, arith, chars, known_chars}
use Rattle.rdf_trig.proofs.code.TextLemmas.{none_named}
use Rattle.rdf_trig.proofs.names.Name.view_or.Goals as goal

pub returns-else-len-gt0 : goal.returns-else-len-gt0
returns-else-len-gt0 g c =
    let len = c.len.ensures in
    let none = c.if-len-gt0.false in
    c.known.ensures ∙ ap (λ o. unwrap_or o (known_chars c.args.other))
    (none_named (chars c.self.inside.text) c.args.self.now c.self.view_is (omega (arith, len, none)))
