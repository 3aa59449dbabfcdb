-- A line is in the form of these files exactly where it has a prefix with its colon, a space and an absolute IRI.
use Rattle.rdf_iri.proofs.Prelude.{◌∙◌, ap, sym, false≢true, text_of}
use Rattle.rdf_iri.proofs.BindingLemmas.{line_is_plain, no_plain_without_space, plain_name, plain_iri}
use Rattle.rdf_iri.proofs.binding_lines.plain.Goals as goal
use Rattle.rdf_iri.proofs.binding_lines.plain.Goals.{else-is_pname_ns-via-then-is_pname_ns+then-iri_text+else-has_scheme, else-is_pname_ns-via-then-is_pname_ns+else-iri_text, else-is_pname_ns-via-else-is_pname_ns}

pub without_colon-requires : goal.without_colon-requires
without_colon-requires c = c.is_pname_ns.ensures.0 c.if-is_pname_ns.true

pub returns-then-has_scheme : goal.returns-then-has_scheme
returns-then-has_scheme c =
    line_is_plain c.args.text.now c.cut.result.0.now c.without_colon.result.now c.in-Some.iri.now c.utf8.text c.cut.ensures.front
    (sym (ap text_of c.in-Some.is) ∙ c.cut.ensures.rest)
    c.without_colon.ensures (c.is_pname_ns.ensures.0 c.if-is_pname_ns.true)
    (record { characters = sym c.iri_text.ensures ∙ c.if-iri_text.true; scheme = sym c.has_scheme.ensures ∙ c.if-has_scheme.true })

pub returns-else-is_pname_ns : goal.returns-else-is_pname_ns
returns-else-is_pname_ns c =
    let rest = sym (ap text_of c.in-Some.is) ∙ c.cut.ensures.rest in
    elim c.else-is_pname_ns.branch [
      | else-is_pname_ns-via-then-is_pname_ns+then-iri_text+else-has_scheme w ↦ λ p i b.
          false≢true (sym w.if-has_scheme.false ∙ (w.has_scheme.ensures
          ∙ (plain_iri c.args.text.now c.cut.result.0.now c.in-Some.iri.now p i c.utf8.text c.cut.ensures.front rest b).scheme))
      | else-is_pname_ns-via-then-is_pname_ns+else-iri_text w ↦ λ p i b.
          false≢true (sym w.if-iri_text.false ∙ (w.iri_text.ensures
          ∙ (plain_iri c.args.text.now c.cut.result.0.now c.in-Some.iri.now p i c.utf8.text c.cut.ensures.front rest b).characters))
      | else-is_pname_ns-via-else-is_pname_ns w ↦ λ p i b.
          false≢true (sym w.if-is_pname_ns.false ∙ c.is_pname_ns.ensures.1
          (plain_name c.args.text.now c.cut.result.0.now c.in-Some.iri.now p i c.utf8.text c.cut.ensures.front rest b))
    ]

pub returns-in-None : goal.returns-in-None
returns-in-None c = λ p i b. no_plain_without_space c.args.text.now p i c.utf8.text (sym (ap text_of c.in-None.is) ∙ c.cut.ensures.rest) b
