-- A token from its first character on, in each family of states, or none where no family begins so.
use Rattle.rdf_tokens.proofs.Prelude.{◌≡◌, length, refl, sym, ap, ◌∙◌, inl, inr, arith, None, eqb-true, begin}
use Rattle.rdf_tokens.specs.declared.states.machine.State.TheVariants.{Start, Iri, Label, Text, Tag, Number, Name, Dead}
use Rattle.rdf_tokens.proofs.StateLemmas.{reached-start, reached-first, reached-none, reached-out}
use Rattle.rdf_tokens.proofs.front.first_front.Goals as goal

pub returns-then-is_empty-clause-best : goal.returns-then-is_empty-clause-best
returns-then-is_empty-clause-best c =
    let bs = c.args.text.now in
    let none : length bs ≡ 0 = eqb-true (length bs) 0 (sym c.is_empty.ensures ∙ c.if-is_empty.true) in
    (reached-out c.args.dialect bs 0 Start None (reached-start c.args.dialect bs c.utf8.text) (inl (omega arith))).0

pub returns-then-is_empty-clause-state : goal.returns-then-is_empty-clause-state
returns-then-is_empty-clause-state c =
    let bs = c.args.text.now in
    let none : length bs ≡ 0 = eqb-true (length bs) 0 (sym c.is_empty.ensures ∙ c.if-is_empty.true) in
    (reached-out c.args.dialect bs 0 Start None (reached-start c.args.dialect bs c.utf8.text) (inl (omega arith))).1

pub front_from-requires : goal.front_from-requires
front_from-requires c =
    let x = c.char_at-c in
    let d = c.args.dialect in
    reached-first d c.args.text.now x.result.1 x.result.0 (Iri c.step.result) c.utf8.text x.ensures.is x.ensures.past x.ensures.fits
    (c.step.ensures ∙ sym (ap (λ f. begin d f x.result.0) (sym c.family_of.ensures ∙ c.in-Iri.is)))

pub front_from-requires-in-Label : goal.front_from-requires-in-Label
front_from-requires-in-Label c =
    let x = c.char_at-c in
    let d = c.args.dialect in
    reached-first d c.args.text.now x.result.1 x.result.0 (Label c.step-in-Label.result) c.utf8.text x.ensures.is x.ensures.past x.ensures.fits
    (c.step-in-Label.ensures ∙ sym (ap (λ f. begin d f x.result.0) (sym c.family_of.ensures ∙ c.in-Label.is)))

pub front_from-requires-in-Text : goal.front_from-requires-in-Text
front_from-requires-in-Text c =
    let x = c.char_at-c in
    let d = c.args.dialect in
    reached-first d c.args.text.now x.result.1 x.result.0 (Text c.step-in-Text.result) c.utf8.text x.ensures.is x.ensures.past x.ensures.fits
    (c.step-in-Text.ensures ∙ sym (ap (λ f. begin d f x.result.0) (sym c.family_of.ensures ∙ c.in-Text.is)))

pub front_from-requires-in-Tag : goal.front_from-requires-in-Tag
front_from-requires-in-Tag c =
    let x = c.char_at-c in
    let d = c.args.dialect in
    reached-first d c.args.text.now x.result.1 x.result.0 (Tag c.step-in-Tag.result) c.utf8.text x.ensures.is x.ensures.past x.ensures.fits
    (c.step-in-Tag.ensures ∙ sym (ap (λ f. begin d f x.result.0) (sym c.family_of.ensures ∙ c.in-Tag.is)))

pub front_from-requires-in-Number : goal.front_from-requires-in-Number
front_from-requires-in-Number c =
    let x = c.char_at-c in
    let d = c.args.dialect in
    reached-first d c.args.text.now x.result.1 x.result.0 (Number c.step-in-Number.result) c.utf8.text x.ensures.is x.ensures.past x.ensures.fits
    (c.step-in-Number.ensures ∙ sym (ap (λ f. begin d f x.result.0) (sym c.family_of.ensures ∙ c.in-Number.is)))

pub name_front-requires-clause-name : goal.name_front-requires-clause-name
name_front-requires-clause-name c =
    let x = c.char_at-c in
    let d = c.args.dialect in
    reached-first d c.args.text.now x.result.1 x.result.0 (Name c.step-in-Name.result) c.utf8.text x.ensures.is x.ensures.past x.ensures.fits
    (c.step-in-Name.ensures ∙ sym (ap (λ f. begin d f x.result.0) (sym c.family_of.ensures ∙ c.in-Name.is)))

pub returns-in-Other-clause-best : goal.returns-in-Other-clause-best
returns-in-Other-clause-best c =
    let x = c.char_at-c in
    let d = c.args.dialect in
    (reached-out d c.args.text.now x.result.1 Dead None
    (reached-none d c.args.text.now x.result.1 x.result.0 c.utf8.text x.ensures.is x.ensures.past x.ensures.fits
    (sym (ap (λ f. begin d f x.result.0) (sym c.family_of.ensures ∙ c.in-Other.is)))) (inr refl)).0

pub returns-in-Other-clause-state : goal.returns-in-Other-clause-state
returns-in-Other-clause-state c =
    let x = c.char_at-c in
    let d = c.args.dialect in
    (reached-out d c.args.text.now x.result.1 Dead None
    (reached-none d c.args.text.now x.result.1 x.result.0 c.utf8.text x.ensures.is x.ensures.past x.ensures.fits
    (sym (ap (λ f. begin d f x.result.0) (sym c.family_of.ensures ∙ c.in-Other.is)))) (inr refl)).1
