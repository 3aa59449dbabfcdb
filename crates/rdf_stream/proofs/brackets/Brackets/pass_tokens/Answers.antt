-- The token at the place is given, or one before it is noted.
use Rattle.rdf_stream.proofs.Prelude.{◌∙◌, subst, tokens_of, ComesTo, Offers}
use Rattle.rdf_stream.proofs.BracketLemmas.{comes_to, noted_token}
use Rattle.rdf_stream.proofs.brackets.Brackets.pass_tokens.Goals as goal

pub returns-in-Some-clause-there : goal.returns-in-Some-clause-there
returns-in-Some-clause-there g c = λ _ d limit bytes h.
    let i = c.tokens.invariant in
    let v = c.tokens.self.scanner in
    let w = c.next_place.new.scanner in
    let kept = c.tokens.self.kept.items in
    let o = subst (λ p. Offers v p w) c.in-Some.is c.in_ok-next_place.ensures in
    subst (λ e. ComesTo (tokens_of d limit bytes e) c.args.until kept) i.ended
    (comes_to v w kept o.0 c.in-Some.place d limit bytes c.args.until o.1 o.2 c.if-place-until.true (i.noted d limit bytes h))

pub tokens-preserved : goal.tokens-preserved
tokens-preserved g c =
    let i = c.tokens.invariant in
    let v = c.tokens.self.scanner in
    let w = c.next_place.new.scanner in
    let o = subst (λ p. Offers v p w) c.in-Some.is c.in_ok-next_place.ensures in
    record {
      noted = λ d limit bytes h.
          noted_token v w c.tokens.self.kept.items c.note.new.kept.items o.0 c.in-Some.place d limit bytes o.1 o.2 c.in-Ok.ensures (i.noted d limit bytes h);
      ended = o.1.ended ∙ i.ended;
    }
