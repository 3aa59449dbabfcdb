-- Each answer of a look is the step of the definition, by what comes after the text.
use Rattle.rdf_tokens.proofs.Prelude.{◌≡◌, ◌⊎◌, ◌||◌, true, false, inl, inr, sym, ap, ◌∙◌, subst, chars, is_live, is_empty, by_tail, decided, ended, tail_after, IsLook}
use Rattle.rdf_tokens.proofs.LookLemmas.{empty-bytes, step-open, step-done, decided-look, cuts-front}
use Rattle.rdf_tokens.proofs.look.state_look.Goals as goal
use Rattle.rdf_tokens.proofs.look.state_look.Goals.{in_default-via-in-GoesOn+else-waits, in_default-via-in-Broken+else-waits-2, in_default-via-in_default}

pub decided-requires : goal.decided-requires
decided-requires c = cuts-front c.args.dialect c.args.text.now c.front_of-front.result.best c.utf8.text c.front_of-front.ensures.best

pub returns-in-GoesOn-clause-look : goal.returns-in-GoesOn-clause-look
returns-in-GoesOn-clause-look c = λ limit o.
    let d = c.args.dialect in
    let w = chars c.args.text.now in
    let b : c.is_open-waits.result ≡ (is_empty w || is_live d w) =
    c.is_open-waits.ensures ∙ (ap (λ x. x || c.front_of-front.result.live) (empty-bytes c.args.text.now c.utf8.text)
    ∙ ap (λ x. is_empty w || x) c.front_of-front.ensures.live) in
    step-open d limit (tail_after c.args.tail) w true o (sym c.if-waits.true ∙ b) ∙ ap (λ t. by_tail d (tail_after t) w true) c.in-GoesOn.is

pub returns-in-Broken-clause-look : goal.returns-in-Broken-clause-look
returns-in-Broken-clause-look c = λ limit o.
    let d = c.args.dialect in
    let w = chars c.args.text.now in
    let b : c.is_open-waits.result ≡ (is_empty w || is_live d w) =
    c.is_open-waits.ensures ∙ (ap (λ x. x || c.front_of-front.result.live) (empty-bytes c.args.text.now c.utf8.text)
    ∙ ap (λ x. is_empty w || x) c.front_of-front.ensures.live) in
    step-open d limit (tail_after c.args.tail) w true o (sym c.if-waits-2.true ∙ b) ∙ ap (λ t. by_tail d (tail_after t) w true) c.in-Broken.is

pub returns-in_default-clause-look : goal.returns-in_default-clause-look
returns-in_default-clause-look c = λ limit o.
    let d = c.args.dialect in
    let bs = c.args.text.now in
    let w = chars bs in
    let b : c.is_open-waits.result ≡ (is_empty w || is_live d w) =
    c.is_open-waits.ensures ∙ (ap (λ x. x || c.front_of-front.result.live) (empty-bytes bs c.utf8.text)
    ∙ ap (λ x. is_empty w || x) c.front_of-front.ensures.live) in
    let h : (tail_after c.args.tail ≡ ended) ⊎ (c.is_open-waits.result ≡ false) = elim c.in_default.branch [
      | in_default-via-in-GoesOn+else-waits x ↦ inr x.if-waits.false
      | in_default-via-in-Broken+else-waits-2 x ↦ inr x.if-waits-2.false
      | in_default-via-in_default x ↦ inl (ap tail_after x.in_default.is)
    ] in
    subst (λ s. IsLook c.decided.result s w) (sym (step-done d limit (tail_after c.args.tail) w c.is_open-waits.result o b h))
    (subst (λ l. IsLook l (decided d w) w) (sym c.decided.ensures) (decided-look d bs c.front_of-front.result.best c.utf8.text c.front_of-front.ensures.best))
