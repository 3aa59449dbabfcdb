-- What passing a line with any escapes does to a reader.
use Rattle.rdf_lines.proofs.Prelude.{◌≡◌, ℕ, ◌+◌, ◌-◌, ◌≤◌, true, not, nat_le, ◌&&◌, List, [], ◌∷◌, ◌++◌, refl, sym, ap, ◌∙◌, subst, length, take, drop, append_assoc, arith, length-append, length-drop, length-take, encode_utf8_all, take-append_seam, and_from, nat_tests, append-nil, flat_map-append, encodes-append, Quad, most_bytes, Driven, HasRead, can_pass, passed, LeadsBack, IsReadOn, can_pass-parts, LineEnding, Kept, Rules, LineAt, line_words, end_count, LineSpelled, PassesInto, Begin, line_in, unprefixed, Writable, line, text}
use Rattle.rdf_tokens.specs.Passing.{is_idle}
use Rattle.rdf_lines.specs.declared.form.Escapes.TheVariants.{Plain}
use Rattle.rdf_lines.proofs.EscapedParts.{take_more, take_shorter}
use Rattle.rdf_lines.proofs.EscapedLine.{line_formed, line_read}
use Rattle.rdf_lines.proofs.NodePrefixLemmas.{line_unprefixed}

-- where no line is passed, nothing changes
pub passes_nothing : (r : Driven LineAt) (old new : List ℕ) → new ≡ old → PassesInto r [] r old new
passes_nothing r old new e = record {
  lines = [];
  appended = e ∙ sym (append-nil old);
  passes = record {
    given = [];
    are = refl;
    writable = tt;
    limit = refl;
    read = λ x before quads h. subst (λ u. HasRead line_words r x u (quads ++ [])) (sym (append-nil before))
        (subst (HasRead line_words r x before) (sym (append-nil quads)) h);
  };
}

-- what can pass, can pass less
pub can_less : (r : Driven LineAt) (m n : ℕ) → can_pass r n ≡ true → m ≤ n → can_pass r m ≡ true
can_less r m n e l =
    let p = can_pass-parts r n e in
    and_from (not r.done) (is_idle r.scanner && nat_le (r.scanner.taken.offset + m) most_bytes) (ap not p.0)
    (and_from (is_idle r.scanner) (nat_le (r.scanner.taken.offset + m) most_bytes) p.1 (test (r.scanner.taken.offset + m) most_bytes (omega (arith, p.2, l))))
  where
    test : (a b : ℕ) → a ≤ b → nat_le a b ≡ true
    test a b l = grind (arith, nat_tests)

module _ (ending : LineEnding) (r : Driven LineAt) (g : LineAt) (is : g ≡ r.grammar) (limit : r.scanner.limit ≡ r.grammar.limit)
    (rules : Rules) (same : rules ≡ g.rules)
    (begin : g.mode ≡ Begin) (roomy : 64 ≤ g.limit) (n : ℕ) (q : Quad) (text rest : List ℕ) (short : length text ≤ g.limit)
    (spelled : LineSpelled ending rules.form rules.iri n q text rest) where
  here : rules ≡ r.grammar.rules
  here = same ∙ ap (λ (y : LineAt). y.rules) is

  at : g.limit ≡ r.scanner.limit
  at = ap (λ (y : LineAt). y.limit) is ∙ sym limit

  found : (front : List ℕ) × (text ≡ front ++ rest) × LeadsBack line_words r front (q ∷ []) (n + end_count ending)
  found =
      line_read r ending n q text rest (ap (λ (y : LineAt). y.mode) (sym is) ∙ begin) (let a = at in omega (arith, a, roomy))
      (let a = at in omega (arith, a, short))
      (subst (λ (y : Rules). LineSpelled ending y.form y.iri n q text rest) here spelled)

  -- the bytes of the line
  bytes : take (length text - length rest) text ≡ found.0
  bytes =
      let s = ap length found.1 ∙ length-append found.0 rest in
      let size : length text - length rest ≡ length found.0 = omega (arith, s) in
      ap (λ k. take k text) size ∙ (ap (take (length found.0)) found.1 ∙ take-append_seam found.0 rest)

  back : (slice : List ℕ) (tokens : ℕ) → slice ≡ take (length text - length rest) text → tokens ≡ n + end_count ending →
      LeadsBack line_words r slice (q ∷ []) tokens
  back slice tokens e f =
      subst (λ x. LeadsBack line_words r x (q ∷ []) tokens) (sym (e ∙ bytes)) (subst (LeadsBack line_words r found.0 (q ∷ [])) (sym f) found.2)

  pub line_leads : (slice : List ℕ) (tokens : ℕ) → slice ≡ take (length text - length rest) text → tokens ≡ n + end_count ending →
      (more : List Quad) × (1 ≡ length more) × LeadsBack line_words r slice more tokens
  line_leads slice tokens e f = (q ∷ [], refl, back slice tokens e f)

  pub line_passes : (slice : List ℕ) (tokens : ℕ) → slice ≡ take (length text - length rest) text → tokens ≡ n + end_count ending →
      (new : Driven LineAt) → new ≡ passed r slice 1 tokens →
      IsReadOn line_words r slice 1 tokens new → (before after : List ℕ) → after ≡ before ++ encode_utf8_all
      (line_in (unprefixed Kept Plain) q) → PassesInto r (take (length text - length rest) text) new before after
  line_passes slice tokens e f new p reads before after w = record {
    lines = encode_utf8_all (line_in (unprefixed Kept Plain) q);
    appended = w;
    passes = record {
      given = q ∷ [];
      are = ap encode_utf8_all (line_unprefixed Kept Plain q ∙ sym (append-nil (line Kept Plain q)));
      writable = let f = line_formed rules.iri ending rules.form n q text rest spelled in ((f.0, f.1), tt);
      limit = ap (λ (y : Driven LineAt). y.scanner.limit) p;
      read = λ x b qs h. subst (λ y. HasRead line_words new x (b ++ y) (qs ++ q ∷ [])) e (reads (q ∷ []) refl (back slice tokens e f) x b qs h);
    };
  }

-- some lines, and then others
pub passes_then : (a b c : Driven LineAt) (u v x y z : List ℕ) → PassesInto a u b x y → PassesInto b v c y z → PassesInto a (u ++ v) c x z
passes_then a b c u v x y z p q = record {
  lines = p.lines ++ q.lines;
  appended = q.appended ∙ (ap (λ w. w ++ q.lines) p.appended ∙ append_assoc x p.lines q.lines);
  passes = record {
    given = p.passes.given ++ q.passes.given;
    are =
        ap (λ w. w ++ q.lines) p.passes.are
        ∙ (ap (λ w. encode_utf8_all (text Kept Plain p.passes.given) ++ w) q.passes.are
        ∙ (sym (encodes-append (text Kept Plain p.passes.given) (text Kept Plain q.passes.given))
        ∙ ap encode_utf8_all (sym (flat_map-append (line Kept Plain) p.passes.given q.passes.given))));
    writable = both p.passes.given q.passes.given p.passes.writable q.passes.writable;
    limit = q.passes.limit ∙ p.passes.limit;
    read = λ s before quads h.
        subst (λ w. HasRead line_words c s w (quads ++ (p.passes.given ++ q.passes.given))) (append_assoc before u v)
        (subst (HasRead line_words c s ((before ++ u) ++ v)) (append_assoc quads p.passes.given q.passes.given)
        (q.passes.read s (before ++ u) (quads ++ p.passes.given) (p.passes.read s before quads h)));
  };
}
  where
    both : (qs rs : List Quad) → Writable Kept qs → Writable Kept rs → Writable Kept (qs ++ rs)
    both [] rs h k = k
    both (q ∷ qs) rs h k = (h.0, both qs rs h.1 k)

-- one line more of a text
pub passes_on : (a b c : Driven LineAt) (w rest : List ℕ) (at n : ℕ) (x y z : List ℕ) → rest ≡ take (length rest) (drop at w) →
    n ≤ length rest → PassesInto a (take at w) b x y → PassesInto b (take n rest) c y z →
    PassesInto a (take (at + n) w) c x z
passes_on a b c w rest at n x y z e l p q =
    let same : take n rest ≡ take n (drop at w) = ap (take n) e ∙ take_shorter (drop at w) n (length rest) l in
    subst (λ u. PassesInto a u c x z) (ap (λ u. take at w ++ u) same ∙ sym (take_more w at n)) (passes_then a b c (take at w) (take n rest) x y z p q)

-- it ends within the text
pub rest_within : (w rest : List ℕ) (at n : ℕ) → rest ≡ take (length rest) (drop at w) → n ≤ length rest → at ≤ length w → at + n ≤ length w
rest_within w rest at n e l h =
    let a = ap length e ∙ length-take (length rest) (drop at w) in
    let b = length-drop at w in
    omega (arith, a, b, l, h)

-- the bytes of a front can pass where the text can
pub can_slice : (r : Driven LineAt) (w u : List ℕ) (k : ℕ) → u ≡ w → can_pass r (length w) ≡ true → can_pass r (length (take k u)) ≡ true
can_slice r w u k e h = can_less r (length (take k u)) (length w) h (let a = length-take k u in let b = ap length e in omega (arith, a, b))
