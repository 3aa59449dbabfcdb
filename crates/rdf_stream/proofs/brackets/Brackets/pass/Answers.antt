-- The part of the piece that is taken decides the token at the place, or its tokens are noted.
use Rattle.rdf_stream.proofs.Prelude.{◌++◌, take, drop, subst, append_assoc, tokens_of, ComesTo, IsNoted}
use Rattle.rdf_stream.proofs.BracketLemmas.{comes_with_more, front_more, noted_bytes, whole_piece}
use Rattle.rdf_stream.proofs.brackets.Brackets.pass.Goals as goal

pub returns-then-branch-clause-there : goal.returns-then-branch-clause-there
returns-then-branch-clause-there g c = λ _ d limit bytes h e.
    let f = c.parts.invariant.noted in
    let old = c.parts.self in
    let mid = c.push.new.self in
    let rest = c.parts.rest.now in
    let n = c.in-Ok.taken in
    let kept = c.pass_tokens.new.self.kept.items in
    let front = (bytes ++ f.0) ++ take n rest in
    let noted = noted_bytes old.scanner mid old.kept.items rest n d limit (bytes ++ f.0) c.in-Ok.ensures (f.2 d limit bytes h) in
    let there = c.in_ok-pass_tokens.ensures.there c.if-branch.true d limit front noted in
    subst (λ b. ComesTo (tokens_of d limit b e) c.args.until kept) (whole_piece bytes c.args.piece.now f.0 rest n f.1)
    (comes_with_more d limit front (drop n rest) e c.args.until kept
    (subst (λ x. ComesTo (tokens_of d limit front x) c.args.until kept) c.in-Ok.ensures.after.more there))

pub parts-preserved : goal.parts-preserved
parts-preserved g c =
    let f = c.parts.invariant.noted in
    let old = c.parts.self in
    let mid = c.push.new.self in
    let new = c.pass_tokens.new.self in
    let rest = c.parts.rest.now in
    let n = c.in-Ok.taken in
    record {
      noted = (
        f.0 ++ take n rest,
        front_more c.args.piece.now f.0 rest c.after-rest.result.now n f.1 c.after-rest.ensures,
        λ d limit bytes h.
            let noted = noted_bytes old.scanner mid old.kept.items rest n d limit (bytes ++ f.0) c.in-Ok.ensures (f.2 d limit bytes h) in
            subst (IsNoted new.scanner new.kept.items d limit) (append_assoc bytes f.0 (take n rest))
            (c.in_ok-pass_tokens.ensures.passed c.if-branch.false d limit ((bytes ++ f.0) ++ take n rest) noted),
      );
      waiting = c.in_ok-pass_tokens.ensures.waits c.if-branch.false;
    }
