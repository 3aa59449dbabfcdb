-- A byte more of the line.
use Rattle.rdf_stream.proofs.Prelude.{◌≡◌, ◌∙◌, ◌+◌, ◌-◌, ◌∷◌, ◌++◌, [], suc, false, cond, get_or, take, drop, sym, ap, arith, rules, append_assoc, drop_more, take_more, is_feed, line_rest, reach}
use Rattle.rdf_stream.proofs.watch.line_after.Goals as goal

pub loop-len-preserved : goal.loop-len-preserved
loop-len-preserved c =
    let w = c.args.bytes.now in
    let n = c.loop-len.len in
    let b = get_or w n 0 in
    let plain : is_feed b ≡ false = search rules in
    let next : line_rest (drop n w) ≡ b ∷ line_rest (drop (n + 1) w) =
    ap line_rest (drop_more w n 0 c.if-len-bytes.true) ∙ ap (λ t. cond t [] (b ∷ line_rest (drop (n + 1) w))) plain in
    let room : reach - n ≡ suc (reach - (n + 1)) = omega (arith, c.loop-len-test.true) in
    let more : take (reach - n) (line_rest (drop n w)) ≡ b ∷ take (reach - (n + 1)) (line_rest (drop (n + 1) w)) =
    ap (λ m. take m (line_rest (drop n w))) room ∙ ap (take (suc (reach - (n + 1)))) next in
    record {
      within = omega (arith, c.if-len-bytes.true);
      few = omega (arith, c.loop-len-test.true);
      told = c.loop-len.invariant.told
          ∙ (ap (λ v. take n w ++ v) more
          ∙ (sym (append_assoc (take n w) (b ∷ []) (take (reach - (n + 1)) (line_rest (drop (n + 1) w))))
          ∙ ap (λ v. v ++ take (reach - (n + 1)) (line_rest (drop (n + 1) w))) (sym (take_more w n 0 c.if-len-bytes.true))));
    }
