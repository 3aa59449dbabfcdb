-- Each move keeps what the text with the rest of the reference comes to.
use Rattle.rdf_iri.proofs.Prelude.{IsUtf8, ◌≡◌, ◌≤◌, ◌++◌, ◌∷◌, [], ◌∙◌, ap, sym, subst, append_assoc, length, drop, take, slice_range, arith, append-nil, IsMove, front_at, path_at, parent}
use Rattle.std.proofs.lemmas.List.Folds.{drop_split}
use Rattle.rdf_iri.specs.declared.steps.Move.TheVariants.{Here, Up, Into, Last}
use Rattle.rdf_iri.proofs.StepsLemmas.{between-more}
use Rattle.rdf_iri.proofs.WrittenOnward.{comes-first, comes-same, comes-here, comes-up, comes-into, comes-last, between-none, passes-boundary, directory-boundary}
use Rattle.rdf_iri.proofs.steps.put_onward.Goals as goal

pub loop-next-init : goal.loop-next-init
loop-next-init g c =
    let w = c.args.reference.now in
    let text = c.args.text.now in
    let same : text ≡ text ++ slice_range w c.args.from c.args.from = sym (append-nil text) ∙ ap (λ x. text ++ x) (sym (between-none w c.args.from)) in
    record {
      order = omega arith;
      kept = c.requires.cut;
      at = c.requires.cut;
      comes = comes-same _ _ _ _ _ _ same (comes-first c.args.root text (drop c.args.from w) c.requires.text);
    }

pub loop-next-preserved-in-Into : goal.loop-next-preserved-in-Into
loop-next-preserved-in-Into g c =
    let w = c.args.reference.now in
    let i = c.loop-next.invariant in
    let text = c.loop-next.text in
    let m = subst (λ x. IsMove x c.loop-next.at (Into c.in-Into.next)) c.as_bytes.ensures.value c.in-Into.ensures in
    let some = m.0.some in
    let longer : text ++ slice_range w c.loop-next.kept c.in-Into.next ≡ (text ++ slice_range w c.loop-next.kept c.loop-next.at) ++ (m.1 ++ 47 ∷ []) =
    ap (λ x. text ++ x) (between-more w c.loop-next.kept c.loop-next.at c.in-Into.next i.order (omega (arith, some)))
    ∙ (sym (append_assoc text (slice_range w c.loop-next.kept c.loop-next.at) (slice_range w c.loop-next.at c.in-Into.next))
    ∙ ap (λ x. (text ++ slice_range w c.loop-next.kept c.loop-next.at) ++ x) m.2) in
    record {
      order = let o = i.order in omega (arith, o, some);
      kept = i.kept;
      at = passes-boundary w c.loop-next.at c.in-Into.next c.utf8.reference m.0;
      comes = comes-into c.args.root _ _ _ m.1 _ _ _ m.3 longer i.comes;
    }

pub loop-next-preserved-in-Here : goal.loop-next-preserved-in-Here
loop-next-preserved-in-Here g c =
    let w = c.args.reference.now in
    let i = c.loop-next.invariant in
    let m = subst (λ x. IsMove x c.loop-next.at (Here c.in-Here.next)) c.as_bytes.ensures.value c.in-Here.ensures in
    let text = c.put_between.new.text in
    let same : c.loop-next.text ++ slice_range w c.loop-next.kept c.loop-next.at ≡ text ++ slice_range w c.in-Here.next c.in-Here.next =
    sym c.in_ok-put_between-in-Here.ensures ∙ (sym (append-nil text) ∙ ap (λ x. text ++ x) (sym (between-none w c.in-Here.next))) in
    let b = passes-boundary w c.loop-next.at c.in-Here.next c.utf8.reference m.0 in
    record {
      order = omega arith;
      kept = b;
      at = b;
      comes = comes-same _ _ _ _ _ _ same (comes-here _ _ _ _ _ _ m.1 i.comes);
    }

pub truncate-requires : goal.truncate-requires
truncate-requires g c =
    let text = c.put_between-in-Up.new.text in
    let e = c.as_bytes-in-Up.ensures.bytes in
    let l : c.above-len.result ≤ length text = subst (λ x. c.above-len.result ≤ length x) e c.above-len.ensures.within in
    let t : take c.above-len.result text ≡ front_at c.args.root text ++ (parent (path_at c.args.root text) ++ 47 ∷ []) =
    subst (λ x. take c.above-len.result x ≡ front_at c.args.root x ++ (parent (path_at c.args.root x) ++ 47 ∷ [])) e c.above-len.ensures.text in
    directory-boundary text (front_at c.args.root text ++ parent (path_at c.args.root text)) c.above-len.result (subst IsUtf8 e c.as_bytes-in-Up.ensures.utf8) l
    (t ∙ sym (append_assoc (front_at c.args.root text) (parent (path_at c.args.root text)) (47 ∷ [])))

pub loop-next-preserved : goal.loop-next-preserved
loop-next-preserved g c =
    let w = c.args.reference.now in
    let i = c.loop-next.invariant in
    let m = subst (λ x. IsMove x c.loop-next.at (Up c.in-Up.next)) c.as_bytes.ensures.value c.in-Up.ensures in
    let text = c.put_between-in-Up.new.text in
    let cut = c.truncate.new.self in
    let e = c.as_bytes-in-Up.ensures.bytes in
    let here : c.loop-next.text ++ slice_range w c.loop-next.kept c.loop-next.at ≡ text = sym c.in_ok-put_between-in-Up.ensures in
    let t : cut ≡ front_at c.args.root text ++ (parent (path_at c.args.root text) ++ 47 ∷ []) =
    c.truncate.ensures ∙ subst (λ x. take c.above-len.result x ≡ front_at c.args.root x ++ (parent (path_at c.args.root x) ++ 47 ∷ [])) e
    c.above-len.ensures.text in
    let same : cut ≡ cut ++ slice_range w c.in-Up.next c.in-Up.next = sym (append-nil cut) ∙ ap (λ x. cut ++ x) (sym (between-none w c.in-Up.next)) in
    let b = passes-boundary w c.loop-next.at c.in-Up.next c.utf8.reference m.0 in
    record {
      order = omega arith;
      kept = b;
      at = b;
      comes = comes-same _ _ _ _ _ _ same (comes-up _ _ _ text cut _ _ m.1 t (comes-same _ _ _ _ _ _ here i.comes));
    }

pub returns-in-Last : goal.returns-in-Last
returns-in-Last g c =
    let w = c.args.reference.now in
    let i = c.loop-next.invariant in
    let text = c.loop-next.text in
    let m = subst (λ x. IsMove x c.loop-next.at Last) c.as_bytes.ensures.value c.in-Last.ensures in
    c.in_ok-push-in-Last.ensures
    ∙ (ap (λ x. text ++ x) (c.range_from.ensures.value ∙ drop_split w c.loop-next.kept c.loop-next.at i.order)
    ∙ (sym (append_assoc text (slice_range w c.loop-next.kept c.loop-next.at) (drop c.loop-next.at w)) ∙ comes-last c.args.root _ _ _ _ m i.comes))

pub put_between-requires-clause-order : goal.put_between-requires-clause-order
put_between-requires-clause-order g c = c.loop-next.invariant.order

pub put_between-requires-clause-from : goal.put_between-requires-clause-from
put_between-requires-clause-from g c = c.loop-next.invariant.kept

pub put_between-requires-clause-to : goal.put_between-requires-clause-to
put_between-requires-clause-to g c = c.loop-next.invariant.at

pub put_between-requires-in-Up-clause-order : goal.put_between-requires-in-Up-clause-order
put_between-requires-in-Up-clause-order g c = c.loop-next.invariant.order

pub put_between-requires-in-Up-clause-from : goal.put_between-requires-in-Up-clause-from
put_between-requires-in-Up-clause-from g c = c.loop-next.invariant.kept

pub put_between-requires-in-Up-clause-to : goal.put_between-requires-in-Up-clause-to
put_between-requires-in-Up-clause-to g c = c.loop-next.invariant.at

pub loop-next-smaller-in-Into : goal.loop-next-smaller-in-Into
loop-next-smaller-in-Into g c =
    let m = subst (λ x. IsMove x c.loop-next.at (Into c.in-Into.next)) c.as_bytes.ensures.value c.in-Into.ensures in
    let some = m.0.some in
    let within = m.0.within in
    omega (arith, some, within)

pub loop-next-smaller-in-Here : goal.loop-next-smaller-in-Here
loop-next-smaller-in-Here g c =
    let m = subst (λ x. IsMove x c.loop-next.at (Here c.in-Here.next)) c.as_bytes.ensures.value c.in-Here.ensures in
    let some = m.0.some in
    let within = m.0.within in
    omega (arith, some, within)

pub loop-next-smaller : goal.loop-next-smaller
loop-next-smaller g c =
    let m = subst (λ x. IsMove x c.loop-next.at (Up c.in-Up.next)) c.as_bytes.ensures.value c.in-Up.ensures in
    let some = m.0.some in
    let within = m.0.within in
    omega (arith, some, within)
