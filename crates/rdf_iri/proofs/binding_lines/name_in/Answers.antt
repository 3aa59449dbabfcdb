-- A name is cut off behind its blanks and its colon.
use Rattle.rdf_iri.proofs.Prelude.{◌∙◌, [], ◌∷◌, ◌++◌, ap, sym, subst, arith, chars, false≢true, Turtle, PnameNs, text_of}
use Rattle.rdf_terms.specs.Terminals.{Shape}
use Rattle.rdf_iri.proofs.BindingLemmas.{at_mark, at_colon, is_name, name_cut, no_mark}
use Rattle.rdf_iri.proofs.binding_lines.name_in.Goals as goal

pub split_at-requires : goal.split_at-requires
split_at-requires c =
    (at_colon c.after_blanks-named.result.now c.cut.result.0.now c.in-Some.rest.now c.after_blanks-named.utf8 c.cut.ensures.front
    (sym (ap text_of c.in-Some.is) ∙ c.cut.ensures.rest)).boundary

pub returns-then-is_pname_ns : goal.returns-then-is_pname_ns
returns-then-is_pname_ns c =
    let named = c.after_blanks-named.result.now in
    let back = sym (ap text_of c.in-Some.is) ∙ c.cut.ensures.rest in
    let a = at_colon named c.cut.result.0.now c.in-Some.rest.now c.after_blanks-named.utf8 c.cut.ensures.front back in
    is_name (chars c.args.text.now) named c.cut.result.0.now c.in-Some.rest.now
    (c.begins_blank.ensures.0 c.if-not-begins_blank.false) c.after_blanks-named.ensures
    (at_mark 58 named c.cut.result.0.now c.in-Some.rest.now (omega arith) c.after_blanks-named.utf8 c.cut.ensures.front back)
    (subst (Shape Turtle PnameNs) (ap chars c.split_at.ensures.front ∙ a.name) (c.is_pname_ns.ensures.0 c.if-is_pname_ns.true))

pub returns-else-is_pname_ns : goal.returns-else-is_pname_ns
returns-else-is_pname_ns c = λ q n b.
    let named = c.after_blanks-named.result.now in
    let back = sym (ap text_of c.in-Some.is) ∙ c.cut.ensures.rest in
    let a = at_colon named c.cut.result.0.now c.in-Some.rest.now c.after_blanks-named.utf8 c.cut.ensures.front back in
    let m = at_mark 58 named c.cut.result.0.now c.in-Some.rest.now (omega arith) c.after_blanks-named.utf8 c.cut.ensures.front back in
    let same = m.ahead ∙ (name_cut (chars c.args.text.now) named q n c.after_blanks-named.ensures b).0 in
    let name = ap chars c.split_at.ensures.front ∙ (a.name ∙ ap (λ x. x ++ 58 ∷ []) same) in
    false≢true (sym c.if-is_pname_ns.false ∙ c.is_pname_ns.ensures.1 (subst (Shape Turtle PnameNs) (sym name) b.shape))

pub returns-in-None : goal.returns-in-None
returns-in-None c = λ q n b.
    let named = c.after_blanks-named.result.now in
    let none = no_mark 58 named (omega arith) c.after_blanks-named.utf8 (sym (ap text_of c.in-None.is) ∙ c.cut.ensures.rest) in
    let some = (name_cut (chars c.args.text.now) named q n c.after_blanks-named.ensures b).1 in
    absurd (cc)
