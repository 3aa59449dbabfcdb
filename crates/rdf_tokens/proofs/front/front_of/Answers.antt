-- The longer of the fronts by the states and by the spellings, and what is kept of an open token.
use Rattle.rdf_tokens.proofs.Prelude.{◌≡◌, ◌||◌, true, false, ap, sym, ◌∙◌, subst, is_some, refl, chars, fixed, rows_of, live_by, front_by, state_of, Walked}
use Rattle.rdf_tokens.specs.Machine.{goes_on}
use Rattle.rdf_tokens.proofs.StateLemmas.{front-bytes, live-bytes, open-live}
use Rattle.rdf_tokens.proofs.WalkLemmas.{within-walk, walked-kept, walked_if}
use Rattle.rdf_tokens.proofs.front.front_of.Goals as goal

pub returns-then-is_some-clause-best : goal.returns-then-is_some-clause-best
returns-then-is_some-clause-best c =
    front-bytes c.args.dialect c.args.text.now c.fixed_front.result c.with_length.result c.longer.result c.utf8.text
    (c.fixed_front.ensures ∙ ap (front_by (rows_of c.args.dialect fixed)) c.as_bytes.ensures.value)
    (c.with_length.ensures ∙ c.shaped_front-shaped.ensures.best) c.longer.ensures

pub returns-then-is_some-clause-live : goal.returns-then-is_some-clause-live
returns-then-is_some-clause-live c =
    let d = c.args.dialect in
    let bs = c.args.text.now in
    let goes : goes_on d (state_of d (chars bs)) ≡ true =
    sym (ap is_some c.shaped_front-shaped.ensures.state ∙ open-live d (state_of d (chars bs))) ∙ (sym c.is_some.ensures ∙ c.if-is_some.true) in
    let whole = sym (ap (λ t. t || live_by (rows_of d fixed) bs) goes) ∙ live-bytes d bs c.utf8.text in
    c.if-is_some.true ∙ whole

pub returns-then-is_some-clause-walked : goal.returns-then-is_some-clause-walked
returns-then-is_some-clause-walked c =
    let shaped = c.shaped_front-shaped in
    subst (Walked c.args.dialect c.args.text.now) (sym c.keep.ensures)
    (walked_if c.args.dialect c.args.text.now _ _ _
    (walked-kept c.args.dialect c.args.text.now _ _ shaped.result.len shaped.result.kind shaped.result.state c.utf8.text c.requires.walked
    refl shaped.ensures.best shaped.ensures.state)
    c.requires.walked)

pub returns-else-is_some-clause-best : goal.returns-else-is_some-clause-best
returns-else-is_some-clause-best c =
    front-bytes c.args.dialect c.args.text.now c.fixed_front.result c.with_length.result c.longer.result c.utf8.text
    (c.fixed_front.ensures ∙ ap (front_by (rows_of c.args.dialect fixed)) c.as_bytes.ensures.value)
    (c.with_length.ensures ∙ c.shaped_front-shaped.ensures.best) c.longer.ensures

pub returns-else-is_some-clause-live : goal.returns-else-is_some-clause-live
returns-else-is_some-clause-live c =
    let d = c.args.dialect in
    let bs = c.args.text.now in
    let goes : goes_on d (state_of d (chars bs)) ≡ false =
    sym (ap is_some c.shaped_front-shaped.ensures.state ∙ open-live d (state_of d (chars bs))) ∙ (sym c.is_some.ensures ∙ c.if-is_some.false) in
    let whole = sym (ap (λ t. t || live_by (rows_of d fixed) bs) goes) ∙ live-bytes d bs c.utf8.text in
    c.is_fixed_live.ensures ∙ (ap (live_by (rows_of d fixed)) c.as_bytes-else-is_some.ensures.value ∙ whole)

pub moves_on-requires : goal.moves_on-requires
moves_on-requires c = within-walk c.args.dialect c.args.text.now _ c.requires.walked
