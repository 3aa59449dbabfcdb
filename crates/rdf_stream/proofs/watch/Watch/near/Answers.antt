-- The place is among the bytes that are kept.
use Rattle.rdf_stream.proofs.Prelude.{◌≡◌, ◌∙◌, [], length, take, drop, sym, ap, subst, arith, rules, length-append, take_rest, column_after, last_of, line_after, line_rest, reach}
use Rattle.rdf_diagnostics.specs.Sights.{IsSight}
use Rattle.rdf_stream.proofs.WatchLemmas.{column_kept, front_kept, rest_kept, told_open}
use Rattle.rdf_stream.proofs.watch.Watch.near.Goals as goal

pub returns-in_ok-sight_of-in-Some-line_before : goal.returns-in_ok-sight_of-in-Some-line_before
returns-in_ok-sight_of-in-Some-line_before g c = λ bytes w opened.
    let kept = c.args.self.now in
    let at = c.in-Some.at in
    let front = front_kept kept bytes w c.args.offset at c.in-Some.ensures.is in
    let same = ap (λ k. k.bytes) c.self.view_is in
    let column : c.column_after.result ≡ column_after c.self.inside.column (take at c.self.inside.kept.items) = search rules in
    let rest : drop at c.deref-in-Some-line_before.result.now ≡ drop c.args.offset bytes =
    ap (drop at) (c.deref-in-Some-line_before.ensures.value ∙ same) ∙ sym (rest_kept kept bytes w c.args.offset at c.in-Some.ensures.is) in
    let seen : drop at c.deref-in-Some-line_before-2.result.now ≡ drop c.args.offset bytes =
    ap (drop at) (c.deref-in-Some-line_before-2.ensures.value ∙ same) ∙ sym (rest_kept kept bytes w c.args.offset at c.in-Some.ensures.is) in
    record {
      within = omega (arith, ap length w.whole, length-append w.gone kept.bytes, w.offset, c.in-Some.ensures.within, c.in-Some.ensures.is);
      column = column ∙ (ap (λ k. column_after k.column (take at k.bytes)) c.self.view_is ∙ column_kept kept bytes w c.args.offset at c.in-Some.ensures.is);
      before = c.in_ok-from_slice-in-Some-line_before.ensures.items
          ∙ (c.in-Some-line_before.ensures bytes w ∙ ap (λ v. last_of reach (line_after [] v)) (sym front));
      after = c.in_ok-from_slice-in-Some-line_before-2.ensures.items
          ∙ (c.line_after.ensures ∙ ap (λ v. take reach (line_rest v)) (take_rest c.deref-in-Some-line_before.result.now at ∙ rest));
      sight = subst (λ v. IsSight c.args.words.dialect c.args.words.limit v c.args.is_end c.in_ok-sight_of-in-Some-line_before.field-0)
          (take_rest c.deref-in-Some-line_before-2.result.now at ∙ seen) c.in_ok-sight_of-in-Some-line_before.ensures;
      bracket = told_open c.args.words.dialect c.args.words.limit bytes c.args.is_end c.args.offset c.args.bracket c.told_of.result opened
          (c.told_of.ensures bytes w);
    }
