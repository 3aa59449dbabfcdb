-- The loop over the characters of a token: it stands at a place that the states have reached, with the longest front so far.
use Rattle.rdf_tokens.proofs.Prelude.{◌≡◌, inl, inr, refl, sym, ap, ◌∙◌, subst, arith, Some, None, chars, three_quotes, only_long, with_length, Reached, kind_here}
use Rattle.rdf_tokens.specs.Machine.{kind_at}
use Rattle.rdf_tokens.proofs.SpellingLemmas.{quotes-bytes}
use Rattle.rdf_tokens.proofs.StateLemmas.{reached-step, reached-out}
use Rattle.rdf_tokens.proofs.RestLemmas.{reached-run}
use Rattle.rdf_tokens.proofs.front.front_from.Goals as goal
use Rattle.rdf_tokens.proofs.front.front_from.Goals.{in-Some, in_default, then-loop-at-test+else-is_live, else-loop-at-test}

pub loop-at-init : goal.loop-at-init
loop-at-init g c =
    let d = c.args.dialect in
    let bs = c.args.text.now in
    let s = g.S.Shape.whole c.args.begun in
    let three : c.has_three_quotes-three.result ≡ three_quotes d (chars bs) =
    c.has_three_quotes-three.ensures ∙ (ap (three_quotes d) c.as_bytes.ensures.value ∙ quotes-bytes d bs c.utf8.text) in
    let kind : c.only_long_string.result ≡ kind_here d bs s =
    c.only_long_string.ensures ∙ (ap (λ t. only_long t c.kind.result) three ∙ ap (only_long (three_quotes d (chars bs))) c.kind.ensures) in
    let k = c.only_long_string.result in
    let before = with_length c.args.best.len c.args.best.kind None in
    let at = c.rest_end-at.result in
    let all : Reached d bs at s (with_length at k before) =
    reached-run d bs c.args.first at s k before kind c.rest_end-at.ensures
    (subst (λ k. Reached d bs c.args.first s (with_length c.args.first k before)) (sym kind) c.requires) in
    let same : with_length at k before ≡ with_length c.match-only_long_string.len c.match-only_long_string.kind None = elim c.match-only_long_string.branch [
      | in-Some w ↦ ap (λ k. with_length at k before) w.in-Some.is
          ∙ sym (ap (λ k. with_length c.match-only_long_string.len k None) w.kind-is ∙ ap (λ n. Some (n, w.in-Some.longer)) w.len-is)
      | in_default w ↦ ap (λ k. with_length at k before) w.in_default.is
          ∙ sym (ap (λ k. with_length c.match-only_long_string.len k None) w.kind-is ∙ ap (λ n. with_length n c.args.best.kind None) w.len-is)
    ] in
    subst (Reached d bs at s) same all

pub loop-at-preserved-in-Some-only_long_string : goal.loop-at-preserved-in-Some-only_long_string
loop-at-preserved-in-Some-only_long_string g c =
    let x = c.char_at-c in
    let d = c.args.dialect in
    let bs = c.args.text.now in
    let three : c.has_three_quotes-three.result ≡ three_quotes d (chars bs) =
    c.has_three_quotes-three.ensures ∙ (ap (three_quotes d) c.as_bytes.ensures.value ∙ quotes-bytes d bs c.utf8.text) in
    let s = g.S.Shape.whole c.step-state.result in
    let longer = c.in-Some-only_long_string.longer in
    let kind : c.only_long_string-in-loop-at.result ≡ only_long (three_quotes d (chars bs)) (kind_at s) =
    c.only_long_string-in-loop-at.ensures ∙ (ap (λ t. only_long t c.kind-in-loop-at.result) three
    ∙ ap (only_long (three_quotes d (chars bs))) c.kind-in-loop-at.ensures) in
    let told = sym c.in-Some-only_long_string.is ∙ kind in
    reached-run d bs x.result.1 c.rest_end-at-in-loop-at.result s (Some longer)
    (with_length c.loop-at.len c.loop-at.kind None) told c.rest_end-at-in-loop-at.ensures
    (reached-step d bs c.loop-at.at x.result.1 x.result.0 (g.S.Shape.whole c.loop-at.state) s (Some longer) (with_length c.loop-at.len c.loop-at.kind None)
    (Some (x.result.1, longer)) c.loop-at.invariant x.ensures.is x.ensures.past x.ensures.fits c.step-state.ensures told refl)

pub loop-at-preserved : goal.loop-at-preserved
loop-at-preserved g c =
    let x = c.char_at-c in
    let d = c.args.dialect in
    let bs = c.args.text.now in
    let three : c.has_three_quotes-three.result ≡ three_quotes d (chars bs) =
    c.has_three_quotes-three.ensures ∙ (ap (three_quotes d) c.as_bytes.ensures.value ∙ quotes-bytes d bs c.utf8.text) in
    let s = g.S.Shape.whole c.step-state.result in
    let kind : c.only_long_string-in-loop-at.result ≡ only_long (three_quotes d (chars bs)) (kind_at s) =
    c.only_long_string-in-loop-at.ensures ∙ (ap (λ t. only_long t c.kind-in-loop-at.result) three
    ∙ ap (only_long (three_quotes d (chars bs))) c.kind-in-loop-at.ensures) in
    let shorter = sym c.in_default-only_long_string.is ∙ kind in
    reached-run d bs x.result.1 c.rest_end-at-in-loop-at.result s None (with_length c.loop-at.len c.loop-at.kind None) shorter c.rest_end-at-in-loop-at.ensures
    (reached-step d bs c.loop-at.at x.result.1 x.result.0 (g.S.Shape.whole c.loop-at.state) s None (with_length c.loop-at.len c.loop-at.kind None)
    (with_length c.loop-at.len c.loop-at.kind None) c.loop-at.invariant x.ensures.is x.ensures.past x.ensures.fits c.step-state.ensures shorter refl)

pub returns-clause-best : goal.returns-clause-best
returns-clause-best g c =
    (reached-out c.args.dialect c.args.text.now c.loop-at.at (g.S.Shape.whole c.loop-at.state) (with_length c.loop-at.len c.loop-at.kind None)
    c.loop-at.invariant (elim c.loop-at-test.branch [
      | then-loop-at-test+else-is_live w ↦ inr (sym w.is_live.ensures ∙ w.if-is_live.false)
      | else-loop-at-test w ↦ inl (let l = w.loop-at-test.false in omega arith)
    ])).0

pub returns-clause-state : goal.returns-clause-state
returns-clause-state g c =
    c.open_state.ensures ∙ (reached-out c.args.dialect c.args.text.now c.loop-at.at (g.S.Shape.whole c.loop-at.state)
    (with_length c.loop-at.len c.loop-at.kind None)
    c.loop-at.invariant (elim c.loop-at-test.branch [
      | then-loop-at-test+else-is_live w ↦ inr (sym w.is_live.ensures ∙ w.if-is_live.false)
      | else-loop-at-test w ↦ inl (let l = w.loop-at-test.false in omega arith)
    ])).1
